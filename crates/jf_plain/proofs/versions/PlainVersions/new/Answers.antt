use Rattle.jf_plain.proofs.Histories.{versions_of_list-one, are-one}
use Rattle.jf_plain.proofs.versions.PlainVersions.new.Goals as goal

pub invariant_of-result : goal.invariant_of-result
invariant_of-result c =
    are-one c.push.new.self.items c.new-versions.result.items (record { map = c.new-map.result; root = c.in_ok-root.root }) c.new-versions.ensures.items c.in_ok-push.ensures.items c.new-map.ensures c.in_ok-root.ensures

pub returns : goal.returns
returns c =
    versions_of_list-one c.push.new.self.items c.new-versions.result.items (record { map = c.new-map.result; root = c.in_ok-root.root }) c.new-versions.ensures.items c.in_ok-push.ensures.items c.new-map.ensures c.in_ok-root.ensures
