use Rattle.jf_check.proofs.OneThing.{one_thing}
use Rattle.jf_check.proofs.laws.files_show_one_thing.Goals as goal

pub returns : goal.returns
returns c = one_thing c.items_lead_to_one.ensures c.spelled_is_read.ensures c.damage_has_one_place.ensures c.damage_is_no_versions.ensures c.files_stand_for_one.ensures
