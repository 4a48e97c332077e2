use Rattle.ciphers.proofs.fault.Refusal.words.Goals as goal

pub returns-in-ZeroKeyId : goal.returns-in-ZeroKeyId
returns-in-ZeroKeyId c = cc

pub returns-in-SecondPrimary : goal.returns-in-SecondPrimary
returns-in-SecondPrimary c = cc

pub returns-in-NoneEnabled : goal.returns-in-NoneEnabled
returns-in-NoneEnabled c = cc

pub returns-in-RegisteredAlready : goal.returns-in-RegisteredAlready
returns-in-RegisteredAlready c = cc

pub returns-in-EmptyValue : goal.returns-in-EmptyValue
returns-in-EmptyValue c = cc

pub returns-in-Damaged : goal.returns-in-Damaged
returns-in-Damaged c = cc

pub returns-in-VersionTooHigh : goal.returns-in-VersionTooHigh
returns-in-VersionTooHigh c = cc
