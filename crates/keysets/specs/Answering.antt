-- How calls that accept or refuse are put together.
use Rattle.std.specs.Prelude.{ℕ, Bool, true, false, Ok, Err, Result}
use Rattle.ciphers.specs.Faults.{placed}
use Rattle.ciphers.specs.declared.fault.Fault.{Fault}

-- accepted, or refused with a fault
abbrev pub Answer : Type 0
Answer = Result (Unit {0}) Fault

-- accepted only if a test holds
abbrev pub only_if : Bool → Fault → Answer
only_if true f = Ok tt
only_if false f = Err f

-- a refusal stamped with a place
abbrev pub at_place : {X : Type 0} → ℕ → Result X Fault → Result X Fault
at_place i (Ok x) = Ok x
at_place i (Err f) = Err (placed i f)

-- the first refusal of two
abbrev pub and_then : Answer → Answer → Answer
and_then (Ok u) a = a
and_then (Err f) a = Err f

-- a value, if accepted
abbrev pub giving : {X : Type 0} → X → Answer → Result X Fault
giving x (Ok u) = Ok x
giving x (Err f) = Err f
