use Rattle.quiver.proofs.Prelude.{rules, arith, ◌≡◌, ◌∷◌, [], length, None, refl, ap, Object, object, object_fault}
use Rattle.quiver.proofs.Declared.{declared_object, fresh_object}
use Rattle.quiver.proofs.Fields.{are_declared, names_len}
use Rattle.quiver.proofs.Added.{Adds, declarations_added, kept_added, kept_of_same}
use Rattle.quiver.proofs.quiver.Quiver.declare_object.Goals as goal

allowed : (c : goal.In_ok-push-2) → object_fault c.args.self.now c.args.name.now ≡ None
allowed c = search rules

place : (c : goal.In_ok-push-2) → c.len-declaration.result ≡ length c.args.self.now
place c = omega (arith, c.len-declaration.ensures.len, names_len c.self.inside c.args.self.now c.self.view_is)

adds : (c : goal.In_ok-push-2) → Adds c.self.inside (record { names = c.add_name.new.names; objects = c.push.new.self; letters = c.push-2.new.self }) c.args.self.now (object c.args.name.now)
adds c =
    let v = c.next_object-object.result in
    let a = c.next_letter-identity.result in
    record {
      key = c.in_ok-add_name.ensures.added.key;
      named = Object v;
      objects = record { identity = a; declaration = c.len-declaration.result } ∷ [];
      letters = record { ends = record { source = v; target = v }; star = a; declaration = c.len-declaration.result } ∷ [];
      fresh = fresh_object c.args.self.now c.args.name.now (allowed c);
      key_is = c.in_ok-add_name.ensures.added.key_is;
      named_is = ap (λ n. Object (record { 0 = n })) c.next_object-object.ensures;
      new_names = c.in_ok-add_name.ensures.added.entries;
      new_objects = search rules;
      objects_are = λ j. record { identity = c.next_letter-identity.ensures.number j; declaration = place c j } ∷ [];
      new_letters = search rules;
      letters_are = λ j. record { source = c.next_object-object.ensures j; target = c.next_object-object.ensures j; star = c.next_letter-identity.ensures.number j; declaration = place c j } ∷ [];
    }

pub invariant_of-self-2 : goal.invariant_of-self-2
invariant_of-self-2 c =
    kept_added c.self.inside _ c.args.self.now (object c.args.name.now) c.self.view_is c.self.invariant (adds c)
    (declared_object c.args.self.now c.args.name.now (are_declared c.self.inside c.args.self.now c.self.view_is c.self.invariant) (allowed c))

pub returns-clause-declared : goal.returns-clause-declared
returns-clause-declared c = declarations_added c.self.inside _ c.args.self.now (object c.args.name.now) c.self.view_is c.self.invariant (adds c)

-- where memory is short, the quiver holds what it held
pub invariant_of-self : goal.invariant_of-self
invariant_of-self c = kept_of_same c.self.inside _ refl c.reserve.ensures.items refl c.self.invariant

pub invariant_of-self-in_err-reserve-2 : goal.invariant_of-self-in_err-reserve-2
invariant_of-self-in_err-reserve-2 c = kept_of_same c.self.inside _ refl c.reserve.ensures.items c.reserve-2.ensures.items c.self.invariant

pub invariant_of-self-in_err-add_name : goal.invariant_of-self-in_err-add_name
invariant_of-self-in_err-add_name c = kept_of_same c.self.inside _ (search rules) c.reserve.ensures.items c.reserve-2.ensures.items c.self.invariant
