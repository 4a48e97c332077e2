-- Words drawn one after the other, and keys made of them.
use Rattle.std.proofs.Common.{◌≡◌, ℕ, ◌<◌, ◌≤◌, ltb, List, [], ◌∷◌, ◌++◌, length, get_or, Ok, Err, Result, sym, ap, ◌∙◌, arith, MatchResult}
use Rattle.std.proofs.lemmas.Bool.{cond-false, le-ltb}
use Rattle.ciphers.specs.Bytes.{word_bytes}
use Rattle.ciphers.specs.Drawn.{first_word, other_words}
use Rattle.ciphers.specs.declared.fault.Fault.{Fault}
use Rattle.encoding.specs.Lists.{list}
use Rattle.encoding.specs.declared.bounded.Bounded.{Bounded}
use Rattle.keysets.specs.Cmac128.{four_words}
use Rattle.keysets.specs.Managers.{made, answered}

-- a source from which a word was drawn
drawn_is : (ws : List ℕ) (a : ℕ) → ◌≡◌ {A = Result ℕ Fault} (Ok a) (first_word ws) → ws ≡ a ∷ other_words ws
drawn_is [] a e = let z : ◌≡◌ {A = ℕ} 0 1 = cc in absurd (omega arith)
drawn_is (w ∷ ws) a e = let same : w ≡ a = cc in ap (λ (x : ℕ). x ∷ ws) same

pub four_drawn : (ws w1 w2 w3 w4 : List ℕ) (a b c d : ℕ)
    → ◌≡◌ {A = Result ℕ Fault} (Ok a) (first_word ws) → w1 ≡ other_words ws
    → ◌≡◌ {A = Result ℕ Fault} (Ok b) (first_word w1) → w2 ≡ other_words w1
    → ◌≡◌ {A = Result ℕ Fault} (Ok c) (first_word w2) → w3 ≡ other_words w2
    → ◌≡◌ {A = Result ℕ Fault} (Ok d) (first_word w3) → w4 ≡ other_words w3
    → ws ≡ a ∷ b ∷ c ∷ d ∷ w4
four_drawn ws w1 w2 w3 w4 a b c d e1 r1 e2 r2 e3 r3 e4 r4 =
    let x1 : ws ≡ a ∷ w1 = drawn_is ws a e1 ∙ ap (λ (l : List ℕ). a ∷ l) (sym r1) in
    let x2 : w1 ≡ b ∷ w2 = drawn_is w1 b e2 ∙ ap (λ (l : List ℕ). b ∷ l) (sym r2) in
    let x3 : w2 ≡ c ∷ w3 = drawn_is w2 c e3 ∙ ap (λ (l : List ℕ). c ∷ l) (sym r3) in
    let x4 : w3 ≡ d ∷ w4 = drawn_is w3 d e4 ∙ ap (λ (l : List ℕ). d ∷ l) (sym r4) in
    x1 ∙ (ap (λ (l : List ℕ). a ∷ l) x2 ∙ (ap (λ (l : List ℕ). a ∷ b ∷ l) x3 ∙ ap (λ (l : List ℕ). a ∷ b ∷ c ∷ l) x4))

pub four_made : (ws rest : List ℕ) (a b c d : ℕ) → ws ≡ a ∷ b ∷ c ∷ d ∷ rest
    → four_words ws ≡ made (word_bytes a ++ (word_bytes b ++ (word_bytes c ++ word_bytes d))) 4
four_made ws rest a b c d e =
    ap four_words e ∙ cond-false (ltb (length (a ∷ b ∷ c ∷ d ∷ rest)) 4) _ _ (le-ltb (length (a ∷ b ∷ c ∷ d ∷ rest)) 4 (omega arith))

-- the key as the code puts it together
pub four_bytes : (p q r s : List ℕ) (a b c d : ℕ) → p ≡ word_bytes a → q ≡ word_bytes b → r ≡ word_bytes c → s ≡ word_bytes d
    → (get_or p 0 0 ∷ get_or p 1 0 ∷ get_or p 2 0 ∷ get_or p 3 0 ∷ get_or q 0 0 ∷ get_or q 1 0 ∷ get_or q 2 0 ∷ get_or q 3 0 ∷
    get_or r 0 0 ∷ get_or r 1 0 ∷ get_or r 2 0 ∷ get_or r 3 0 ∷ get_or s 0 0 ∷ get_or s 1 0 ∷ get_or s 2 0 ∷ get_or s 3 0 ∷ [])
    ≡ word_bytes a ++ (word_bytes b ++ (word_bytes c ++ word_bytes d))
four_bytes p q r s a b c d ea eb ec ed =
    let one : List ℕ → List ℕ → List ℕ = λ l rest. get_or l 0 0 ∷ get_or l 1 0 ∷ get_or l 2 0 ∷ get_or l 3 0 ∷ rest in
    ap (λ (l : List ℕ). one l (one q (one r (one s [])))) ea ∙
    (ap (λ (l : List ℕ). word_bytes a ++ one l (one r (one s []))) eb ∙
    (ap (λ (l : List ℕ). word_bytes a ++ (word_bytes b ++ one l (one s []))) ec ∙
    ap (λ (l : List ℕ). word_bytes a ++ (word_bytes b ++ (word_bytes c ++ one l []))) ed))

-- a list made of a slice that is short enough
pub sliced : (r : Result (Bounded ℕ 128) Fault) (key : List ℕ) (Q : Bounded ℕ 128 → Type 0) (F : Fault → Type 0)
    → length key ≤ 128 → MatchResult r (λ b. (list b ≡ key) × Q b) (λ f. F f × (128 < length key)) → answered list r ≡ Ok key
sliced (Ok b) key Q F few h = ap (λ (l : List ℕ). Ok l) h.0
sliced (Err f) key Q F few h = let big = h.1 in absurd (omega arith)
