-- The four words of a name, copied over those that stood there.
use native.Mathlib.Omega.{arith}
use Rattle.text_build.specs.Tables.{key_words}
use Rattle.text_build.proofs.Stores.{put_mid-sets}
use Rattle.text_build.proofs.put_key.Goals as goal

pub returns : goal.returns
returns c = put_mid-sets _ _ _ _ (key_words c.args.k) c.copy_from_slice.ensures.after (omega arith) (omega arith)
