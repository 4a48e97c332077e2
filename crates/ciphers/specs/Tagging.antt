-- What a key for tags and a running tag stand for, and what pieces one after the other come to.
use Rattle.std.specs.Prelude.{◌≡◌, ℕ, List, [], ◌∷◌, ◌++◌, take}
use Rattle.ciphers.specs.declared.cmac.Cmac.{Cmac}
use Rattle.ciphers.specs.declared.cmac.Running.{Running}
use Rattle.ciphers.specs.Bytes.{xors}
use Rattle.ciphers.specs.Fips197.{cipher}
use Rattle.ciphers.specs.Keys.{aes_key}
use Rattle.ciphers.specs.Rfc4493.{Held, start, absorb, finish, cmac}

abbrev pub mac_key : Cmac → List ℕ
mac_key k = aes_key k.aes

-- a running tag: its key, and what it holds
pub record Progress : Type 0 where
  pub key : List ℕ
  pub held : Held

unfoldable pub progress : Running → Progress
progress r = record { key = mac_key r.mac.now; held = (r.x, take r.n r.block) }

unfoldable pub begun : List ℕ → Progress
begun k = record { key = k; held = start }

unfoldable pub absorbed : Progress → List ℕ → Progress
absorbed p m = record { key = p.key; held = absorb (cipher p.key) p.held m }

unfoldable pub tag_of : Progress → List ℕ
tag_of p = finish (cipher p.key) p.held

-- the two ways in which a running tag moves: a full block that is held goes into X, and bytes are held
abbrev pub turned_over : Progress → Progress
turned_over p = record { key = p.key; held = (cipher p.key (xors p.held.0 p.held.1), []) }

abbrev pub held_with : Progress → List ℕ → Progress
held_with p m = record { key = p.key; held = (p.held.0, p.held.1 ++ m) }

-- pieces absorbed one after the other, and the pieces joined
abbrev pub absorbed_all : Progress → List (List ℕ) → Progress
absorbed_all p [] = p
absorbed_all p (m ∷ ms) = absorbed_all (absorbed p m) ms

abbrev pub join : List (List ℕ) → List ℕ
join [] = []
join (m ∷ ms) = m ++ join ms

-- the tag of pieces is the tag of the message that they make
abbrev pub TagsJoin : Type 0
TagsJoin = (key : List ℕ) (pieces : List (List ℕ)) → tag_of (absorbed_all (begun key) pieces) ≡ cmac (cipher key) (join pieces)
