mod Finishing
