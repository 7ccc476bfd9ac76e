-- The tables of specs/Examples hold.
use mathlib.Core.Path.{refl}
use Rattle.hash_tree.specs.Examples.{Each}
use Rattle.hash_tree.specs.Record.{least, most}
use Rattle.hash_tree.specs.Form.{parse_by}
use Rattle.cbor.specs.Cbor.{put_cbor, sized, cbor_front, cbor}
use Rattle.cbor.specs.Examples.{Holds, Refused, examples, faulty}

pub examples-hold : Each Holds examples
unfolding examples cbor put_cbor parse_by cbor_front sized least most
examples-hold = ((refl, refl), ((refl, refl), ((refl, refl), ((refl, refl), ((refl, refl), ((refl, refl), tt))))))

pub faulty-refused : Each Refused faulty
unfolding faulty parse_by cbor_front sized least most
faulty-refused = (refl, (refl, (refl, (refl, (refl, (refl, (refl, (refl, tt))))))))
