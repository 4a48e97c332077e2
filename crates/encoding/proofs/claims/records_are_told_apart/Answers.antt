use Rattle.encoding.specs.KeyDatas.{alike as of_key_data}
use Rattle.encoding.specs.KeyTemplates.{alike as of_key_template}
use Rattle.encoding.specs.Keys.{alike as of_key}
use Rattle.encoding.specs.Keysets.{alike as of_keyset}
use Rattle.encoding.specs.KeyInfos.{alike as of_key_info}
use Rattle.encoding.specs.KeysetInfos.{alike as of_keyset_info}
use Rattle.encoding.specs.EncryptedKeysets.{alike as of_encrypted_keyset}
use Rattle.encoding.proofs.claims.records_are_told_apart.Goals as goal

pub returns : goal.returns
returns c = record { key_data = of_key_data; key_template = of_key_template; key = of_key; keyset = of_keyset; key_info = of_key_info; keyset_info = of_keyset_info; encrypted_keyset = of_encrypted_keyset }
