-- The first word of a list and the words after it.
use Rattle.std.proofs.Common.{◌≡◌, ℕ, suc, ◌+◌, ◌-◌, ◌<◌, List, [], ◌∷◌, length, get_or, drop, Ok, refl, ap, arith}
use Rattle.ciphers.specs.Drawn.{first_word, other_words, cipher_word, cipher_words}
use Rattle.ciphers.specs.Rfc4493.{Cipher}

pub first_word_is : (ws : List ℕ) → 0 < length ws → first_word ws ≡ Ok (get_or ws 0 0)
first_word_is [] h = absurd (omega arith)
first_word_is (w ∷ ws) h = refl

pub other_words_is : (ws : List ℕ) → other_words ws ≡ drop 1 ws
other_words_is [] = refl
other_words_is (w ∷ ws) = refl

-- the words that a cipher makes, one taken
pub cipher_words_more : (E : Cipher) (n end : ℕ) → n < end → cipher_words E n (end - n) ≡ cipher_word E n ∷ cipher_words E (n + 1) (end - (n + 1))
cipher_words_more E n end h =
    let more : end - n ≡ suc (end - (n + 1)) = omega arith in
    ap (λ (k : ℕ). cipher_words E n k) more
