-- How versions are coded, so that a value that holds them can be stored.
use Rattle.std.specs.Prelude.{ℕ, List, refl}
use Rattle.std.specs.Coded.{Coded, code_by, coded×, coded_ℕ, coded_list}
use Rattle.jf_hash.specs.Codes.{bytes_code, map_code}
use Rattle.jf_hash.specs.Maps.{Map}
use Rattle.jf_model.specs.Versions.{Versions}

-- versions coded as base, floor, head, roots and maps
abbrev pub versions_code : Coded Versions
versions_code =
    code_by (ℕ × (ℕ × (ℕ × (List (List ℕ) × List Map)))) (coded× coded_ℕ (coded× coded_ℕ (coded× coded_ℕ (coded× (coded_list bytes_code) (coded_list map_code)))))
    (λ v. (v.base, (v.floor, (v.head, (v.roots, v.maps))))) (λ p. record { base = p.0; floor = p.1.0; head = p.1.1.0; roots = p.1.1.1.0; maps = p.1.1.1.1 }) (λ _. refl)
