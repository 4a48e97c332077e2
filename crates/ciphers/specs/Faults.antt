-- The table of refusals: the number of each, the letter of each layer, and how a fault is put together.
use Rattle.std.specs.Prelude.{ℕ}
use Rattle.ciphers.specs.declared.fault.Fault.{Fault}
use Rattle.ciphers.specs.declared.fault.Layer.{Layer}
use Rattle.ciphers.specs.declared.fault.Layer.TheVariants.{Manager, Validation, Handle, Registry, KeyManager, Draws, Aead, Encoding, Store}
use Rattle.ciphers.specs.declared.fault.Refusal.{Refusal}
use Rattle.ciphers.specs.declared.fault.Refusal.TheVariants.{EmptyKeyset, ZeroKeyId, NoKeyData, UnknownPrefixType, UnknownStatus, SecondPrimary, NoneEnabled, NoPrimary, UnknownMaterial, KeyNotFound, KeyIsPrimary, StatusBars, NotRegistered, RegisteredAlready, EmptyValue, KeyManagerReason, NoWordLeft, KeysetFull, DoesNotOpen, BreaksEncoding, HoldsNothing, Damaged, WrongSize, VersionTooHigh}

abbrev pub number_of : Refusal → ℕ
number_of EmptyKeyset = 1
number_of ZeroKeyId = 2
number_of NoKeyData = 3
number_of UnknownPrefixType = 4
number_of UnknownStatus = 5
number_of SecondPrimary = 6
number_of NoneEnabled = 7
number_of NoPrimary = 8
number_of UnknownMaterial = 9
number_of KeyNotFound = 10
number_of KeyIsPrimary = 11
number_of StatusBars = 12
number_of NotRegistered = 13
number_of RegisteredAlready = 14
number_of EmptyValue = 15
number_of KeyManagerReason = 16
number_of NoWordLeft = 20
number_of KeysetFull = 21
number_of DoesNotOpen = 22
number_of BreaksEncoding = 23
number_of HoldsNothing = 24
number_of Damaged = 25
number_of WrongSize = 26
number_of VersionTooHigh = 27

-- a letter by its code: M V H R K D A C S
abbrev pub letter_of : Layer → ℕ
letter_of Manager = 77
letter_of Validation = 86
letter_of Handle = 72
letter_of Registry = 82
letter_of KeyManager = 75
letter_of Draws = 68
letter_of Aead = 65
letter_of Encoding = 67
letter_of Store = 83

-- a fault at place 0 with reason 0
abbrev pub fault : Refusal → Layer → Fault
fault f l = record { refusal = f; layer = l; place = 0; reason = 0 }

-- a fault stamped with a place, and one with a reason; the other parts stay
abbrev pub placed : ℕ → Fault → Fault
placed p f = record { refusal = f.refusal; layer = f.layer; place = p; reason = f.reason }

abbrev pub reasoned : ℕ → Fault → Fault
reasoned n f = record { refusal = f.refusal; layer = f.layer; place = f.place; reason = n }
