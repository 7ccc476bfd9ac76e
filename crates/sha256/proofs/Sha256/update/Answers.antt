use Rattle.std.proofs.Common.{◌≡◌, length, refl, arith, rules}
use Rattle.sha256.proofs.Absorbing.{absorbed-short, absorbed-full}
use Rattle.sha256.proofs.Sha256.update.Goals as goal

pub returns-then-bytes-room : goal.returns-then-bytes-room
returns-then-bytes-room c m h =
    let e : length c.args.self.row ≡ 64 = search rules in
    absorbed-short m c.args.bytes.now h refl e (omega (arith, c.used-used.ensures)) refl (rw c.used-used.ensures at c.copy.ensures)

pub returns : goal.returns
returns c m h =
    let e : length c.args.self.row ≡ 64 = search rules in
    let parts = c.split_at.ensures in
    let cut = c.as_chunks.ensures in
    absorbed-full m c.args.bytes.now h refl e c.used-used.result _ c.copy-2.new.to _ _ _ _ c.used-used.ensures (omega arith) parts.front c.copy-2.ensures c.compress.ensures parts.back
    cut.front_len (c.absorb-value.ensures _ (rw cut.front_len cut.front)) cut.back c.copy-3.ensures
