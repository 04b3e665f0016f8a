use Rattle.std.proofs.Common.{◌∙◌, ap, sym, subst, length, get_or, None}
use Rattle.jf_path.proofs.BitmapLaws.{length-spread}
use Rattle.jf_node.specs.LinkFacts.{IsLinkIf}
use Rattle.jf_node.proofs.BranchLaws.{each-spread}
use Rattle.jf_node.proofs.link.Branches.know.Goals as goal

pub returns-clause-long : goal.returns-clause-long
returns-clause-long c = ap length (sym c.self.view_is) ∙ length-spread c.self.inside.there c.self.inside.links.items ∙ c.self.invariant.long

pub returns-clause-links : goal.returns-clause-links
returns-clause-links c i small = subst (λ xs. IsLinkIf (get_or xs i None)) c.self.view_is (each-spread c.self.inside.there c.self.inside.links.items i c.self.invariant.each)
