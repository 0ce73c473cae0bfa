-- The law of the test of the polynomials of rules.
use Rattle.std.specs.Prelude.{◌↔◌, List, IsTrue}
use Rattle.rule_reduce.specs.declared.rule.Rule.{Rule}
use Rattle.rule_reduce.specs.RuleLists.{polynomials_of}
use Rattle.adjoint_rules.specs.declared.parts.Parts.{Parts}
use Rattle.normal_category.specs.Faults.{AreSharp}
use Rattle.normal_category.specs.Tests.{is_sharp}

-- The test of the polynomials of rules holds exactly where all rules are typed and in play.
abbrev pub SharpRulesAreTold : Type 0
SharpRulesAreTold = (p : Parts) (rules : List Rule) → IsTrue (is_sharp p (polynomials_of rules)) ↔ AreSharp p rules
