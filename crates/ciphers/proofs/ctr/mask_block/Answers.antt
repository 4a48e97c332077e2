use Rattle.ciphers.proofs.ctr.mask_block.Goals as goal

pub returns : goal.returns
returns c =
    let text = c.front.ensures in
    let sum = c.xor.ensures in
    let copied = c.copy_from_slice.ensures.after in
    cc
