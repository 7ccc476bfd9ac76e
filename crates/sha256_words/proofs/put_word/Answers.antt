use mathlib.Core.Path.{refl, sym, ◌∙◌}
use Prim.Native.Nat.{◌+◌, ◌-◌}
use native.Mathlib.Nat.{add-sub_cancel_left}
use lib.Seq.{sets-eq}
use Rattle.std.proofs.lemmas.Slice.{put_mid-paste}
use Rattle.sha256_words.specs.Words.{bytes_of}
use Rattle.sha256_words.proofs.put_word.Goals as goal

pub returns : goal.returns
unfolding bytes_of
returns c =
    let a = c.args in
    put_mid-paste a.at (a.at + 4 - a.at) a.out.now _ (bytes_of a.x) 4 (c.copy_from_slice.ensures.after ∙ c.to_be_bytes.ensures) (sym (add-sub_cancel_left a.at 4)) refl
    ∙ sym (sets-eq (bytes_of a.x) a.out.now a.at c.requires)
