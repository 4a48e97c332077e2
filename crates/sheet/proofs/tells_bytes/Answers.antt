use Rattle.sheet.proofs.Shown.{tells_bytes}
use Rattle.sheet.proofs.tells_bytes.Goals as goal

pub returns : goal.returns
returns c = tells_bytes
