-- What it means that a claim isn't zero in the normal forms of rules.
use Rattle.std.specs.Prelude.{List}
use Rattle.definitions.specs.Poly.{Poly}
use Rattle.definitions.specs.Category.{InvolutionLaws}
use Rattle.definitions.specs.Representation.{StarRepresents}
use Rattle.quiver.specs.Declarations.{quiver_of}
use Rattle.rule_reduce.specs.declared.rule.Rule.{Rule}
use Rattle.adjoint_rules.specs.declared.parts.Parts.{Parts}
use Rattle.adjoint_rules.specs.Problem.{generators_in}
use Rattle.normal_forms.specs.NormalForms.{normal_forms, forms_representation}
use Rattle.normal_forms.specs.TellsFromZero.{TellsFromZero}
use Rattle.normal_forms.specs.BothWays.{both_ways, exchange, both_ways_representation}

module _ (p : Parts) (rules : List Rule) (claim : Poly) where
  -- The normal forms are a preadditive category in which each positive integer cancels, with a representation of what the statement declares in which
  -- all generators have the value zero, and the claim hasn't.
  pub record SharpMeans : Type 0 where
    pub tells : TellsFromZero (normal_forms p rules) (quiver_of p.quiver) (forms_representation p rules) (generators_in p) claim

  -- The same of the normal forms both ways, which have an involution, and their representation is a star representation.
  pub record StarSharpMeans : Type 0 where
    pub tells : TellsFromZero (both_ways (normal_forms p rules)) (quiver_of p.quiver)
        (both_ways_representation (quiver_of p.quiver) (forms_representation p rules)) (generators_in p) claim
    pub involution : InvolutionLaws (both_ways (normal_forms p rules)) exchange
    pub represents : StarRepresents (both_ways (normal_forms p rules)) exchange (quiver_of p.quiver)
        (both_ways_representation (quiver_of p.quiver) (forms_representation p rules))
