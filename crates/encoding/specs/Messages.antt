-- What every record's reader and writer share: a record means a list of fields.
use Rattle.std.specs.Prelude.{◌≡◌, ℕ, ◌<◌, ◌≤◌, Bool, true, cond, List, [], ◌∷◌, ◌++◌, length, take, drop, MatchBool, ◌≢◌, nat_le}
use Rattle.ciphers.specs.Faults.{fault, placed}
use Rattle.ciphers.specs.declared.fault.Fault.{Fault}
use Rattle.ciphers.specs.declared.fault.Refusal.TheVariants.{BreaksEncoding, WrongSize}
use Rattle.ciphers.specs.declared.fault.Layer.TheVariants.{Encoding}
use Rattle.encoding.specs.Wire.{Field, number_of, encode_field, encode, Small}

-- fields whose numbers rise from lo to hi, equal ones allowed, and that the record knows
unfoldable pub Ordered : (Field → Bool) → ℕ → ℕ → List Field → Type 0
Ordered knows lo hi [] = Unit {0}
Ordered knows lo hi (f ∷ fs) = (lo ≤ number_of f) × (number_of f ≤ hi) × (knows f ≡ true) × Small f × Ordered knows (number_of f) hi fs

-- what is asked of the fields of every record: in order, and within its largest size
pub record Sound (knows : Field → Bool) (lo hi most : ℕ) (fs : List Field) : Type 0 where
  pub ordered : Ordered knows lo hi fs
  pub size : length (encode fs) ≤ most

-- the fields with a number up to k, and those past it
unfoldable pub up_to : ℕ → List Field → List Field
up_to k [] = []
up_to k (f ∷ fs) = cond (nat_le (number_of f) k) (f ∷ up_to k fs) (up_to k fs)

unfoldable pub past : ℕ → List Field → List Field
past k [] = []
past k (f ∷ fs) = cond (nat_le (number_of f) k) (past k fs) (f ∷ past k fs)

-- one more field, put in its place by its number; or no record begins so, and it is as it was
abbrev pub Took : {R : Type 0} (fields : R → List Field) (r : Bool) (old new : R) (f : Field) → Type 0
Took fields r old new f = MatchBool r
    (fields new ≡ up_to (number_of f) (fields old) ++ (f ∷ past (number_of f) (fields old)))
    ((fields new ≡ fields old) × ((s : _) (gs : List Field) → fields s ≢ up_to (number_of f) (fields old) ++ (f ∷ gs)))

-- the same for one member, among the values of which `In` holds
abbrev pub Filled : {V : Type 0} (part : V → List Field) (In : V → Type 0) (r : Bool) (old new : V) (f : Field) → Type 0
Filled part In r old new f = MatchBool r
    (part new ≡ part old ++ (f ∷ []))
    ((part new ≡ part old) × ((v : _) (gs : List Field) → In v → part v ≢ part old ++ (f ∷ gs)))

-- the place of a refusal: the length of the longest front of the input that is itself some record's encoding
pub record Place {R : Type 0} (fields : R → List Field) (input : List ℕ) (at : ℕ) : Type 0 where
  pub early : at < length input
  pub whole : (r : R) × (encode (fields r) ≡ take at input)
  pub longest : (r : R) (n : ℕ) → n ≤ length input → encode (fields r) ≡ take n input → n ≤ at

-- a fault of the reader, at some place
abbrev pub Broken : Fault → Type 0
Broken f = f ≡ placed f.place (fault BreaksEncoding Encoding)

-- the reader's fault, and the writer's
pub record Unread {R : Type 0} (fields : R → List Field) (input : List ℕ) (f : Fault) : Type 0 where
  pub fault_is : f ≡ placed f.place (fault BreaksEncoding Encoding)
  pub place_is : Place fields input f.place

pub record Unwritten (xs old new : List ℕ) (f : Fault) : Type 0 where
  pub fault_is : f ≡ fault WrongSize Encoding
  pub short : length old < length xs
  pub kept : new ≡ old

-- xs stands at the front of an output, and the rest is kept
pub record Wrote (xs old new : List ℕ) (n : ℕ) : Type 0 where
  pub size : n ≡ length xs
  pub after : new ≡ xs ++ drop n old

-- the last field's number, or d where there is none
unfoldable pub last_of : ℕ → List Field → ℕ
last_of d [] = d
last_of d (f ∷ fs) = last_of (number_of f) fs

-- a step of the reader: the field at the front is the record's next one, or no record goes on so
pub record Went {R : Type 0} (fields : R → List Field) (old new : R) (rest : List ℕ) (n k : ℕ) : Type 0 where
  pub field : Field
  pub front : rest ≡ encode_field field ++ drop n rest
  pub size : n ≡ length (encode_field field)
  pub within : n ≤ length rest
  pub some : 0 < n
  pub number : k ≡ number_of field
  pub added : fields new ≡ fields old ++ (field ∷ [])

abbrev pub Stuck : {R : Type 0} (fields : R → List Field) (old : R) (rest : List ℕ) → Type 0
Stuck fields old rest = (f : Field) (tail : List ℕ) → Small f → rest ≡ encode_field f ++ tail → (s : _) (gs : List Field) → fields s ≢ fields old ++ (f ∷ gs)
