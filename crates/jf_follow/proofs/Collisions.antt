-- Two stores of one version and root whose maps differ give a collision.
use Rattle.std.proofs.Common.{ℕ, ◌-◌, ◌∙◌, sym}
use Rattle.jf_hash.specs.Maps.{IsMap}
use Rattle.jf_model.specs.Versions.{Versions, IsVersions, map_of}
use Rattle.jf_model.proofs.VersionLaws.{root_of-map_of, place-IsMap}
use Rattle.jf_evidence.proofs.MapClashLaws.{maps-collide}
use Rattle.jf_follow.specs.Laws.{FollowersCollide}

pub map_of-IsMap : (v : Versions) (w : ℕ) → IsVersions v → IsMap (map_of v w)
map_of-IsMap v w sound = place-IsMap (v.head - w) v.maps sound.sound

pub collide : FollowersCollide
collide v v' w sound sound' low high low' high' one differ =
    maps-collide (map_of v w) (map_of v' w) (map_of-IsMap v w sound) (map_of-IsMap v' w sound') (sym (root_of-map_of v w sound low high) ∙ one ∙ root_of-map_of v' w sound' low' high') differ
