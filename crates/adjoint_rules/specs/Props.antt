-- A fact that the type of problems has as a field has at most one proof.
use Rattle.std.specs.Prelude.{ℕ, List, [], ◌∷◌}
use Rattle.std.specs.List.{AllZip}
use Rattle.std.proofs.Props as std
use mathlib.Core.HLevel.{×_prop, Unit-prop, ⊥_prop}
use Rattle.word_orders.specs.declared.any.OrderSpec.{OrderSpec}
use Rattle.word_orders.specs.declared.any.OrderSpec.TheVariants.{Degree, Weight, Block}
use Rattle.word_orders.specs.Specified.{IsSound}

pub AllZip-prop : {X Y : Type 0} (R : X → Y → Type 0) → ((x : X) (y : Y) → IsProp (R x y)) → (xs : List X) (ys : List Y) → IsProp (AllZip R xs ys)
AllZip-prop R each [] [] = Unit-prop
AllZip-prop R each [] (y ∷ ys) = ⊥_prop
AllZip-prop R each (x ∷ xs) [] = ⊥_prop
AllZip-prop R each (x ∷ xs) (y ∷ ys) = ×_prop (each x y) (AllZip-prop R each xs ys)

pub IsSound-prop : (letters : ℕ) (order : OrderSpec) → IsProp (IsSound letters order)
IsSound-prop letters Degree = Unit-prop
IsSound-prop letters (Weight weights) = Prim.hlevel std.props
IsSound-prop letters (Block block) = Prim.hlevel std.props

pub ruleset props = (AllZip-prop, IsSound-prop, std.props)
