-- A statement has one problem or one first fault, and not both, and what it leads to is one ending.
use Rattle.stated_problem.proofs.Prelude.{◌≡◌, ◌⊎◌, inl, inr, ℕ, List, Option, Some, None, refl, sym, ap, subst, ◌∙◌, arith, Spot, Statement, Fault, code_of, IsFirstFault, IsTreeOf, each_text_is_read, no_first, Problem, TypeFault, IsMemory, fault_of, IsProblemOf, problem_is_unique, each_statement_has_a_problem_or_a_fault, Ending, refused_statement, statement_fault, typing_text, IsRefusedStatement, no_tree, no_problem, OverStatement, faulty, stated, IsStated}
use Rattle.signature_typing.specs.declared.fault.TypeFault.TheVariants as typing
use Rattle.stated_problem.proofs.Problems.{one_problem}
use Rattle.stated_problem.proofs.Syntax.{tree_once, fault_once}

-- a statement that has a problem is not refused
pub stated_not_refused : (bytes text : List ℕ) (problem : Problem) → IsStated bytes problem → IsRefusedStatement bytes text → ⊥
stated_not_refused bytes text problem is (no_tree fault at first says) = no_first bytes is.tree.0 fault at first is.tree.1
stated_not_refused bytes text problem is (no_problem statements fault tree found says) =
    let same = tree_once bytes is.statements statements is.tree tree in
    let both : (let o : Option TypeFault = None in o) ≡ Some fault = sym is.elaborated.no_fault ∙ ap fault_of same ∙ found in
    absurd cc

pub refused_once : (bytes text text' : List ℕ) → IsRefusedStatement bytes text → IsRefusedStatement bytes text' → text ≡ text'
refused_once bytes text text' (no_tree fault at first is) (no_tree fault' at' first' is') =
    let same = fault_once bytes fault fault' at at' first first' in
    is ∙ (λ i. statement_fault (code_of (same.0 i)) (same.1 i).line (same.1 i).column 0 None None) ∙ sym is'
refused_once bytes text text' (no_tree fault at first is) (no_problem statements other tree found is') = absurd (no_first bytes tree.0 fault at first tree.1)
refused_once bytes text text' (no_problem statements fault tree found is) (no_tree other at first is') = absurd (no_first bytes tree.0 other at first tree.1)
refused_once bytes text text' (no_problem statements fault tree found is) (no_problem statements' fault' tree' found' is') =
    let same = tree_once bytes statements statements' tree tree' in
    let both : Some fault ≡ Some fault' = sym found ∙ ap fault_of same ∙ found' in
    let one : fault ≡ fault' = cc in
    let texts : Some text ≡ Some text' = sym is ∙ ap typing_text one ∙ is' in
    cc

-- a statement has one problem
pub stated_once : (bytes : List ℕ) (problem problem' : Problem) → IsStated bytes problem → IsStated bytes problem' → problem ≡ problem'
stated_once bytes problem problem' one other =
    one_problem problem problem'
    (problem_is_unique one.statements problem problem' one.elaborated (subst (λ (s : List Statement). IsProblemOf s problem') (tree_once bytes other.statements one.statements other.tree one.tree) other.elaborated))

-- what leads over one problem to one ending leads over a statement to one ending
pub statement_once : (bytes : List ℕ) (next : Problem → Ending → Type 0) (ending ending' : Ending)
    → ((problem : Problem) → next problem ending → next problem ending' → ending ≡ ending')
    → OverStatement bytes next ending → OverStatement bytes next ending' → ending ≡ ending'
statement_once bytes next ending ending' once (faulty text refused is) (faulty text' refused' is') = is ∙ ap refused_statement (refused_once bytes text text' refused refused') ∙ sym is'
statement_once bytes next ending ending' once (faulty text refused is) (stated problem said leads) = absurd (stated_not_refused bytes text problem said refused)
statement_once bytes next ending ending' once (stated problem said leads) (faulty text refused is) = absurd (stated_not_refused bytes text problem said refused)
statement_once bytes next ending ending' once (stated problem said leads) (stated problem' said' leads') =
    once problem leads (subst (λ (p : Problem). next p ending') (stated_once bytes problem' problem said' said) leads')

-- what is said over a problem of it
pub stated_leads : (bytes : List ℕ) (next : Problem → Ending → Type 0) (ending : Ending) (problem : Problem) → IsStated bytes problem → OverStatement bytes next ending → next problem ending
stated_leads bytes next ending problem is (faulty text refused ends) = absurd (stated_not_refused bytes text problem is refused)
stated_leads bytes next ending problem is (stated problem' is' leads) = subst (λ (p : Problem). next p ending) (stated_once bytes problem' problem is' is) leads

-- 0 is answered over a problem of it
pub over_problem : (statement : List ℕ) (next : Problem → Ending → Type 0) (ending : Ending) → OverStatement statement next ending → ending.status ≡ 0
    → (problem : Problem) × IsStated statement problem × next problem ending
over_problem statement next ending (faulty text refused ends) is_zero =
    let three = ap (λ (e : Ending). e.status) ends in absurd (omega (arith, is_zero))
over_problem statement next ending (stated problem is leads) is_zero = (problem, is, leads)

-- a fault that isn't want of memory has a text
fault_text : (f : TypeFault) → (IsMemory f → ⊥) → (text : List ℕ) × (typing_text f ≡ Some text)
fault_text (typing.Fault code at column left right limit) h = (_, refl)
fault_text (typing.Memory failed) h = absurd (h tt)

refused_ends : (statement text : List ℕ) (next : Problem → Ending → Type 0) → IsRefusedStatement statement text → (ending : Ending) × OverStatement statement next ending
refused_ends statement text next refused = (refused_statement text, faulty text refused refl)

-- where each problem leads to an ending
pub statement_ends : (statement : List ℕ) (next : Problem → Ending → Type 0) → ((problem : Problem) → (ending : Ending) × next problem ending) → (ending : Ending) × OverStatement statement next ending
statement_ends statement next each = by_text (each_text_is_read statement)
  where
    by_tree : (tree : List Statement) → IsTreeOf statement tree → ((fault : TypeFault) × (fault_of tree ≡ Some fault) × (IsMemory fault → ⊥)) ⊎ ((problem : Problem) × IsProblemOf tree problem)
        → (ending : Ending) × OverStatement statement next ending
    by_tree tree is (inl wrong) = let text = fault_text wrong.0 wrong.2 in refused_ends statement text.0 next (no_problem tree wrong.0 is wrong.1 text.1)
    by_tree tree is (inr right) =
        let over = each right.0 in
        (over.0, stated right.0 (record { statements = tree; tree = is; elaborated = right.1 }) over.1)

    by_text : ((tree : List Statement) × IsTreeOf statement tree) ⊎ ((fault : Fault) × ((at : Spot) × IsFirstFault statement fault at)) → (ending : Ending) × OverStatement statement next ending
    by_text (inl read) = by_tree read.0 read.1 (each_statement_has_a_problem_or_a_fault read.0)
    by_text (inr wrong) = refused_ends statement (statement_fault (code_of wrong.0) wrong.1.0.line wrong.1.0.column 0 None None) next (no_tree wrong.0 wrong.1.0 wrong.1.1 refl)
