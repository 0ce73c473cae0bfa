use Rattle.quiver.proofs.Prelude.{rules, arith, ◌≡◌, ◌∷◌, ◌++◌, ◌+◌, [], Bool, length, None, sym, refl, ap, ◌∙◌, append_assoc, Map, Declaration, arrow, letters_made, map_fault}
use Rattle.quiver.specs.declared.quiver.LetterEntry.{LetterEntry}
use Rattle.quiver.proofs.Growth.{next_turn}
use Rattle.quiver.proofs.Declared.{declared_map, fresh_map}
use Rattle.quiver.proofs.Fields.{are_declared, names_len}
use Rattle.quiver.proofs.Added.{Adds, declarations_added, kept_added, kept_of_same}
use Rattle.quiver.proofs.quiver.Quiver.declare_map.Goals as goal

-- a map that is its own adjoint
allowed : (c : goal.In_ok-push) → map_fault c.args.self.now c.args.name.now c.args.source.0 c.args.target.0 c.args.selfmade ≡ None
allowed c = search rules

place : (c : goal.In_ok-push) → c.len-declaration.result ≡ length c.args.self.now
place c = omega (arith, c.len-declaration.ensures.len, names_len c.self.inside c.args.self.now c.self.view_is)

adds : (c : goal.In_ok-push) → Adds c.self.inside (record { names = c.add_name.new.names; objects = c.self.inside.objects; letters = c.push.new.self }) c.args.self.now (arrow c.args.name.now c.args.source.0 c.args.target.0 c.args.selfmade)
adds c =
    let letter = c.next_letter-letter.result in
    let made : Bool → Declaration = λ selfmade. arrow c.args.name.now c.args.source.0 c.args.target.0 selfmade in
    record {
      key = c.in_ok-add_name.ensures.added.key;
      named = Map letter;
      objects = [];
      letters = record { ends = record { source = c.args.source; target = c.args.target }; star = letter; declaration = c.len-declaration.result } ∷ [];
      fresh = fresh_map c.args.self.now c.args.name.now c.args.source.0 c.args.target.0 c.args.selfmade (allowed c);
      key_is = c.in_ok-add_name.ensures.added.key_is;
      named_is = ap (λ n. Map (record { 0 = n })) c.next_letter-letter.ensures.number;
      new_names = c.in_ok-add_name.ensures.added.entries;
      new_objects = search rules;
      objects_are = refl;
      new_letters = search rules;
      letters_are =
          (λ j. record { source = c.args.source.0; target = c.args.target.0; star = c.next_letter-letter.ensures.number j; declaration = place c j } ∷ [])
          ∙ ap (λ selfmade. letters_made (made selfmade) (next_turn c.args.self.now (made selfmade))) (sym c.if-selfmade.true);
    }

pub returns-in_ok-push-clause-declared : goal.returns-in_ok-push-clause-declared
returns-in_ok-push-clause-declared c = declarations_added c.self.inside _ c.args.self.now _ c.self.view_is c.self.invariant (adds c)

pub invariant_of-self-in-Continue-branch-3 : goal.invariant_of-self-in-Continue-branch-3
invariant_of-self-in-Continue-branch-3 c =
    kept_added c.self.inside _ c.args.self.now _ c.self.view_is c.self.invariant (adds c)
    (declared_map c.args.self.now c.args.name.now (are_declared c.self.inside c.args.self.now c.self.view_is c.self.invariant) _ _ _ c.requires.source_in c.requires.target_in (allowed c))

-- a map and its adjoint
allowed_pair : (c : goal.In_ok-push-3) → map_fault c.args.self.now c.args.name.now c.args.source.0 c.args.target.0 c.args.selfmade ≡ None
allowed_pair c = search rules

place_of_pair : (c : goal.In_ok-push-3) → c.len-declaration.result ≡ length c.args.self.now
place_of_pair c = omega (arith, c.len-declaration.ensures.len, names_len c.self.inside c.args.self.now c.self.view_is)

adds_pair : (c : goal.In_ok-push-3) → Adds c.self.inside (record { names = c.add_name.new.names; objects = c.self.inside.objects; letters = c.push-else-selfmade-2.new.self }) c.args.self.now (arrow c.args.name.now c.args.source.0 c.args.target.0 c.args.selfmade)
adds_pair c =
    let letter = c.next_letter-letter.result in
    let made : Bool → Declaration = λ selfmade. arrow c.args.name.now c.args.source.0 c.args.target.0 selfmade in
    let first : LetterEntry = record { ends = record { source = c.args.source; target = c.args.target }; star = record { 0 = letter.0 + 1 }; declaration = c.len-declaration.result } in
    let second : LetterEntry = record { ends = record { source = c.args.target; target = c.args.source }; star = letter; declaration = c.len-declaration.result } in
    let one : c.push-else-selfmade.new.self.items ≡ c.self.inside.letters.items ++ first ∷ [] = search rules in
    let two : c.push-else-selfmade-2.new.self.items ≡ c.push-else-selfmade.new.self.items ++ second ∷ [] = search rules in
    record {
      key = c.in_ok-add_name.ensures.added.key;
      named = Map letter;
      objects = [];
      letters = first ∷ second ∷ [];
      fresh = fresh_map c.args.self.now c.args.name.now c.args.source.0 c.args.target.0 c.args.selfmade (allowed_pair c);
      key_is = c.in_ok-add_name.ensures.added.key_is;
      named_is = ap (λ n. Map (record { 0 = n })) c.next_letter-letter.ensures.number;
      new_names = c.in_ok-add_name.ensures.added.entries;
      new_objects = search rules;
      objects_are = refl;
      new_letters = two ∙ ap (λ entries. entries ++ second ∷ []) one ∙ append_assoc c.self.inside.letters.items (first ∷ []) (second ∷ []);
      letters_are =
          (λ j.
          record { source = c.args.source.0; target = c.args.target.0; star = c.next_letter-letter.ensures.number j + 1; declaration = place_of_pair c j }
          ∷ record { source = c.args.target.0; target = c.args.source.0; star = c.next_letter-letter.ensures.number j; declaration = place_of_pair c j }
          ∷ [])
          ∙ ap (λ selfmade. letters_made (made selfmade) (next_turn c.args.self.now (made selfmade))) (sym c.if-selfmade.false);
    }

pub returns-in_ok-push-3-clause-declared : goal.returns-in_ok-push-3-clause-declared
returns-in_ok-push-3-clause-declared c = declarations_added c.self.inside _ c.args.self.now _ c.self.view_is c.self.invariant (adds_pair c)

pub invariant_of-self-in-Continue-branch-5 : goal.invariant_of-self-in-Continue-branch-5
invariant_of-self-in-Continue-branch-5 c =
    kept_added c.self.inside _ c.args.self.now _ c.self.view_is c.self.invariant (adds_pair c)
    (declared_map c.args.self.now c.args.name.now (are_declared c.self.inside c.args.self.now c.self.view_is c.self.invariant) _ _ _ c.requires.source_in c.requires.target_in (allowed_pair c))

-- where memory is short, the quiver holds what it held
pub invariant_of-self : goal.invariant_of-self
invariant_of-self c = kept_of_same c.self.inside _ refl refl c.reserve.ensures.items c.self.invariant

pub invariant_of-self-in_err-add_name : goal.invariant_of-self-in_err-add_name
invariant_of-self-in_err-add_name c = kept_of_same c.self.inside _ (search rules) refl c.reserve.ensures.items c.self.invariant
