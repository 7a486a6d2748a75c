-- Two facts of the value that a call returns.
use Rattle.std.specs.Prelude.{Result, Ok, Err, IfOk}

pub ok_two : {X Y : Type 0} (r : Result X Y) (P Q R : X → Type 0) → ((x : X) → P x → Q x → R x) → IfOk r P → IfOk r Q → IfOk r R
ok_two (Ok x) P Q R h p q = h x p q
ok_two (Err e) P Q R h p q = tt
