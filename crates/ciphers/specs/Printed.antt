-- What a person reads of a fault: the words of each refusal, and the line that is printed.
use Rattle.std.specs.Prelude.{ℕ, Bool, cond, List, ◌++◌, codes, decimal, ◌==◌}
use Rattle.std.proofs.Math.Utf8.{encode}
use Rattle.ciphers.specs.declared.fault.Fault.{Fault}
use Rattle.ciphers.specs.declared.fault.Refusal.{Refusal}
use Rattle.ciphers.specs.declared.fault.Refusal.TheVariants.{EmptyKeyset, ZeroKeyId, NoKeyData, UnknownPrefixType, UnknownStatus, SecondPrimary, NoneEnabled, NoPrimary, UnknownMaterial, KeyNotFound, KeyIsPrimary, StatusBars, NotRegistered, RegisteredAlready, EmptyValue, KeyManagerReason, NoWordLeft, KeysetFull, DoesNotOpen, BreaksEncoding, HoldsNothing, Damaged, WrongSize, VersionTooHigh}
use Rattle.ciphers.specs.Faults.{number_of, letter_of}

abbrev pub words_of : Refusal → List ℕ
words_of EmptyKeyset = codes "the keyset has no key"
words_of ZeroKeyId = codes "a key has id 0"
words_of NoKeyData = codes "a key has no key data"
words_of UnknownPrefixType = codes "the prefix type is not 1 to 4"
words_of UnknownStatus = codes "the status is not 1 to 3"
words_of SecondPrimary = codes "a second Enabled key has the primary id"
words_of NoneEnabled = codes "no key is Enabled"
words_of NoPrimary = codes "no Enabled primary, and an Enabled key is not public"
words_of UnknownMaterial = codes "the key material type is not 0 to 4"
words_of KeyNotFound = codes "no key has that id"
words_of KeyIsPrimary = codes "that id is the primary id"
words_of StatusBars = codes "the key's status bars the edit"
words_of NotRegistered = codes "the type is not registered"
words_of RegisteredAlready = codes "the type is registered already"
words_of EmptyValue = codes "the key's value is empty"
words_of KeyManagerReason = codes "the key manager refused"
words_of NoWordLeft = codes "the draw source has no word left"
words_of KeysetFull = codes "the keyset has 16 keys"
words_of DoesNotOpen = codes "the ciphertext does not open"
words_of BreaksEncoding = codes "the bytes break the encoding or a limit"
words_of HoldsNothing = codes "the store holds nothing"
words_of Damaged = codes "the store is damaged"
words_of WrongSize = codes "something is too short or too long"
words_of VersionTooHigh = codes "the key's version is above the highest"

-- `refused 12 M at 3: the key's status bars the edit`
abbrev pub plainly : Fault → List ℕ
plainly f = codes "refused " ++ (decimal (number_of f.refusal) ++ (codes " " ++ (encode (letter_of f.layer) ++ (codes " at " ++ (decimal f.place ++ (codes ": " ++ words_of f.refusal))))))

-- and after a key manager's refusal `, reason 2`
abbrev pub reasonedly : Fault → List ℕ
reasonedly f = codes "refused " ++ (decimal (number_of f.refusal) ++ (codes " " ++ (encode (letter_of f.layer) ++ (codes " at " ++ (decimal f.place ++ (codes ": " ++ (words_of f.refusal ++ (codes ", reason " ++ decimal f.reason))))))))

abbrev pub has_reason : Fault → Bool
has_reason f = number_of f.refusal == 16

abbrev pub printed : Fault → List ℕ
printed f = cond (has_reason f) (reasonedly f) (plainly f)
