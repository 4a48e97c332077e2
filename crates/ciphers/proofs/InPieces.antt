-- A running tag, piece by piece.
use Rattle.std.proofs.Common.{◌≡◌, ℕ, ◌+◌, ◌<◌, ◌≤◌, List, [], ◌∷◌, ◌++◌, length, get_or, take, drop, set, sym, refl, ap, ◌∙◌, arith}
use Rattle.std.proofs.lemmas.List.{take_all, take_more_set, take-append-drop, length-take-le, drop_more}
use Rattle.ciphers.specs.Bytes.{xors}
use Rattle.ciphers.specs.Fips197.{cipher}
use Rattle.ciphers.specs.Rfc4493.{Held, absorb, cmac}
use Rattle.ciphers.specs.Tagging.{Progress, begun, absorbed, absorbed_all, join, tag_of, turned_over, held_with, TagsJoin}
use Rattle.ciphers.proofs.Absorbing.{absorb-append, absorb-held, absorb-full, cmac-is}

keeping : (p : Progress) (s t : Held) → s ≡ t → ◌≡◌ {A = Progress} (record { key = p.key; held = s }) (record { key = p.key; held = t })
keeping p s t e = ap (λ (h : Held). record { key = p.key; held = h }) e

-- the three ways in which a running tag moves
pub turned : (k x block y : List ℕ) (n : ℕ) → n ≡ 16 → length block ≡ 16 → y ≡ cipher k (xors x block)
    → ◌≡◌ {A = Progress} (record { key = k; held = (y, []) }) (turned_over (record { key = k; held = (x, take n block) }))
turned k x block y n e full made =
    let all : take n block ≡ block = take_all n block (omega arith) in
    ap (λ (z : List ℕ). record { key = k; held = (z, []) }) (made ∙ ap (λ (t : List ℕ). cipher k (xors x t)) (sym all))

pub holds_byte : (k x block : List ℕ) (n b : ℕ) → n < length block
    → ◌≡◌ {A = Progress} (record { key = k; held = (x, take (n + 1) (set block n b)) }) (held_with (record { key = k; held = (x, take n block) }) (b ∷ []))
holds_byte k x block n b h = ap (λ (t : List ℕ). record { key = k; held = (x, t) }) (take_more_set block n b h)

pub holds_block : (k x block new : List ℕ) (n : ℕ) → n ≡ 0 → length new ≡ 16
    → ◌≡◌ {A = Progress} (record { key = k; held = (x, take 16 new) }) (held_with (record { key = k; held = (x, take n block) }) new)
holds_block k x block new n e full =
    let none : take n block ≡ [] = ap (λ (i : ℕ). take i block) e in
    ap (λ (t : List ℕ). record { key = k; held = (x, t) }) (take_all 16 new (omega arith) ∙ ap (λ (t : List ℕ). t ++ new) (sym none))

pub absorbed-append : (p : Progress) (a b : List ℕ) → absorbed p (a ++ b) ≡ absorbed (absorbed p a) b
unfolding absorbed
absorbed-append p a b = keeping p _ _ (absorb-append (cipher p.key) p.held a b)

pub absorbed-none : (p : Progress) → absorbed p [] ≡ p
unfolding absorbed absorb
absorbed-none p = refl

-- a full block turned over, and bytes held, leave the same to be absorbed
pub absorbed-turned : (p : Progress) (m : List ℕ) → length p.held.1 ≡ 16 → 0 < length m → absorbed (turned_over p) m ≡ absorbed p m
unfolding absorbed
absorbed-turned p m full some = keeping p _ _ (sym (absorb-full (cipher p.key) p.held.0 p.held.1 m full some))

pub absorbed-held : (p : Progress) (a m : List ℕ) → length p.held.1 + length a ≤ 16 → absorbed (held_with p a) m ≡ absorbed p (a ++ m)
unfolding absorbed
absorbed-held p a m few =
    let E = cipher p.key in
    keeping p _ _ (sym (absorb-append E p.held a m ∙ ap (λ (s : Held). absorb E s m) (absorb-held E p.held.0 p.held.1 a few)))

pub absorbed-all : (p : Progress) (ms : List (List ℕ)) → absorbed_all p ms ≡ absorbed p (join ms)
absorbed-all p [] = sym (absorbed-none p)
absorbed-all p (m ∷ ms) = absorbed-all (absorbed p m) ms ∙ sym (absorbed-append p m (join ms))

pub tag_is : (key m : List ℕ) → tag_of (absorbed (begun key) m) ≡ cmac (cipher key) m
unfolding tag_of absorbed begun
tag_is key m = sym (cmac-is (cipher key) m)

pub tags_join : TagsJoin
tags_join key ms = ap tag_of (absorbed-all (begun key) ms) ∙ tag_is key (join ms)

-- a block off the front, and a byte
pub front_block : (p q : Progress) (m : List ℕ) → 16 ≤ length m → length p.held.1 ≡ 0 → q ≡ held_with p (take 16 m) → absorbed q (drop 16 m) ≡ absorbed p m
front_block p q m long none e =
    let sixteen : length (take 16 m) ≡ 16 = length-take-le 16 m long in
    ap (λ (s : Progress). absorbed s (drop 16 m)) e ∙
    (absorbed-held p (take 16 m) (drop 16 m) (omega arith) ∙ ap (absorbed p) (take-append-drop 16 m))

pub front_byte : (p q : Progress) (m : List ℕ) → 0 < length m → length p.held.1 < 16 → q ≡ held_with p (get_or m 0 0 ∷ []) → absorbed q (drop 1 m) ≡ absorbed p m
front_byte p q m some room e =
    ap (λ (s : Progress). absorbed s (drop 1 m)) e ∙
    (absorbed-held p (get_or m 0 0 ∷ []) (drop 1 m) (omega arith) ∙ ap (absorbed p) (sym (drop_more m 0 0 some)))
