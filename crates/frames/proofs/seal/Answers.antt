-- `frames::seal`: nothing is written, or the three fields of the header.
use Rattle.std.proofs.Common.{ℕ, ◌+◌, ◌-◌, take, drop, ap, ◌∙◌, arith}
use Rattle.crc.specs.Crc.{crc_of}
use Rattle.frames.proofs.Sealing.{seal-long, seal-past, sealed}
use Rattle.frames.proofs.seal.Goals as goal

-- the three fields of the header
pub returns : goal.returns
returns c =
    let a = c.args in
    let part = ap (λ (k : ℕ). crc_of (take k (drop 5 a.buf.now))) {x = a.n + 5 - 5} {y = a.n} (omega arith) in
    sealed a.buf.now _ _ _ c.put-a.result c.put-b.result _
    a.n c.from.result (omega arith) (omega arith) (c.from.ensures ∙ c.crc16-sum.ensures ∙ part) c.put-a.ensures c.put-b.ensures c.put.ensures

-- longer than a frame can say, and past the buffer's end
pub returns-then-n-gt65535 : goal.returns-then-n-gt65535
returns-then-n-gt65535 c = seal-long _ _ (omega arith)

pub returns-then-buf-end : goal.returns-then-buf-end
returns-then-buf-end c = seal-past _ _ (omega arith)
