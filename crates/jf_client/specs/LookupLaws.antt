-- A client that looks a name up in a session's reply, as a statement for a call that does nothing and ensures it.
use Rattle.std.specs.Prelude.{◌≡◌, ◌^◌, ◌<◌, Ok}
use Rattle.std.specs.FinMap.{get}
use Rattle.jf_hash.specs.Hashes.{K}
use Rattle.jf_hash.specs.Maps.{Map, IsMap}
use Rattle.jf_hash.specs.Roots.{root}
use Rattle.jf_ask.specs.Lookups.{lookup}
use Rattle.jf_client.specs.RunLaws.{LineInState, text_heard, AsksProof}

-- for each map, of a version or a fork, and each line that asks for the proof of a name in it, whether the map has the name or not: a lookup of the name in the reply, with any number, under the map's root gives what the map says
abbrev pub HonestProofsAreBelieved : Type 0
HonestProofsAreBelieved = (m : Map) (h : LineInState) (asks : AsksProof m h) → IsMap m → h.number < 2 ^ 64 → lookup (root m) asks.name (text_heard h) ≡ Ok (get m (K asks.name))
