use mathlib.Core.Path.{refl, sym, ◌∙◌}
use Prim.Native.Nat.{◌+◌, ◌-◌}
use native.Mathlib.Nat.{add-sub_cancel_left}
use lib.ListN.{length}
use Rattle.std.proofs.lemmas.Slice.{put_mid-paste}
use Rattle.output.proofs.Putting.{sets_paste}
use Rattle.output.proofs.put_bytes.Goals as goal

pub returns : goal.returns
returns c =
    let a = c.args in
    let s = a.src.now in
    record {
      place = refl;
      bytes = put_mid-paste a.at (a.at + length s - a.at) a.out.now _ s (length s) c.copy_from_slice.ensures.after (sym (add-sub_cancel_left a.at (length s))) refl
          ∙ sets_paste a.out.now a.at s c.requires;
    }
