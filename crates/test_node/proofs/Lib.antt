mod TwoChildren
