-- the command set is one of those whose matches clap states in full
use Rattle.command_shape.proofs.Prelude.{◌≡◌, true, refl, is_simple, is_simple_and_free, clap_on_literals, command_set}

pub set_is_simple : is_simple command_set ≡ true
unfolding command_set clap_on_literals
set_is_simple = refl

pub set_is_free : is_simple_and_free command_set ≡ true
unfolding command_set clap_on_literals
set_is_free = refl
