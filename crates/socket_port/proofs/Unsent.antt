-- Nothing is sent.
use Rattle.std.proofs.Common.{List, Option, Some, None, refl}
use Rattle.socket_port.specs.Ways.{Makes, SendCall}

-- no call was made behind the calls before
pub makes_nothing : (calls : Option (List SendCall)) → Makes calls calls None
makes_nothing None = tt
makes_nothing (Some calls) = refl
