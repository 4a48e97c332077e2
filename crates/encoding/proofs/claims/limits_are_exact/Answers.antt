use Rattle.encoding.proofs.Bounds as bounds
use Rattle.encoding.proofs.claims.limits_are_exact.Goals as goal

pub returns : goal.returns
returns c = record { key_data = bounds.key_data; key_template = bounds.key_template; key = bounds.key; keyset = bounds.keyset; key_info = bounds.key_info; keyset_info = bounds.keyset_info; encrypted_keyset = bounds.encrypted_keyset }
