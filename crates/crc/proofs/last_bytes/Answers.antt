-- `crc::last_bytes`: byte by byte.
use Rattle.std.proofs.Common.{rules, ◌≡◌, ◌∙◌}
use Rattle.std.specs.Prelude.{fold}
use Rattle.crc.specs.Crc.{byte_step}
use Rattle.crc.proofs.Laws.{crc_by_bytes}
use Rattle.crc.proofs.last_bytes.Goals as goal

pub returns : goal.returns
returns c =
    let e : c.fold.result ≡ fold byte_step c.args.crc c.args.bytes.now = search rules in
    e ∙ crc_by_bytes _ _
