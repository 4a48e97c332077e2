-- A type URL has one representation: equal bytes are one value.
use Rattle.std.proofs.Common.{◌≡◌, ℕ, ◌-◌, ◌≤◌, true, List, ◌++◌, length, replicate, sym, ap, ◌∙◌}
use mathlib.Core.Bool.{Bool-set}
use mathlib.Core.HLevel.{is_prop→PathP}
use mathlib.Core.List.{is_set}
use native.Mathlib.Bridge.{le_prop}
use native.Mathlib.Nat.{ℕ_set}
use Rattle.std.proofs.lemmas.List.{take-append-drop}
use Rattle.encoding.specs.Lists.{list, unused, visible}
use Rattle.encoding.specs.declared.bounded.Bounded.{Bounded}
use Rattle.encoding.specs.declared.url.TypeUrl.{TypeUrl}
use Rattle.encoding.specs.ListsLemmas.{list_length}

same_bounded : {T : Type 0} {n : ℕ} (a b : Bounded T n) → a.items ≡ b.items → a.len ≡ b.len → a ≡ b
same_bounded {T} {n} a b e l j = record {
  items = e j;
  len = l j;
  fits = is_prop→PathP (λ k. l k ≤ n) (λ k. le_prop) a.fits b.fits j;
  full = is_prop→PathP (λ k. length (e k) ≡ n) (λ k. ℕ_set _ _) a.full b.full j;
}

same_fields : (a b : TypeUrl) → a.text ≡ b.text → a ≡ b
same_fields a b e j = record {
  text = e j;
  seen = is_prop→PathP (λ k. visible (list (e k)) ≡ true) (λ k. Bool-set _ _) a.seen b.seen j;
  clean = is_prop→PathP (λ k. unused (e k) ≡ replicate (64 - (e k).len) 0) (λ k. is_set ℕ_set _ _) a.clean b.clean j;
}

pub same_url : (a b : TypeUrl) → list a.text ≡ list b.text → a ≡ b
same_url a b e =
    let len : a.text.len ≡ b.text.len = sym (list_length a.text) ∙ ap length e ∙ list_length b.text in
    let tail : unused a.text ≡ unused b.text = a.clean ∙ ap (λ (n : ℕ). replicate (64 - n) 0) len ∙ sym b.clean in
    let items : a.text.items ≡ b.text.items =
    sym (take-append-drop a.text.len a.text.items) ∙ ap (λ (x : List ℕ). x ++ unused a.text) e ∙ ap (λ (x : List ℕ). list b.text ++ x) tail ∙ take-append-drop b.text.len b.text.items in
    same_fields a b (same_bounded a.text b.text items len)
