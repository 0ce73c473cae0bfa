use Rattle.nc_polynomial.proofs.Rests.{coefficients_rest}
use Rattle.nc_polynomial.proofs.terms.next_pair.Goals as goal

pub returns-in_ok-coefficient-in-Less-clause-right_coefficients :
    goal.returns-in_ok-coefficient-in-Less-clause-right_coefficients
returns-in_ok-coefficient-in-Less-clause-right_coefficients c =
    coefficients_rest c.args.right.now.items c.pop_front.new.self.items c.pop_front.result c.pop_front.ensures.items c.requires.right_in

pub returns-in_ok-y-in-Equal-clause-left_coefficients : goal.returns-in_ok-y-in-Equal-clause-left_coefficients
returns-in_ok-y-in-Equal-clause-left_coefficients c =
    coefficients_rest c.args.left.now.items c.pop_front-in-Equal.new.self.items c.pop_front-in-Equal.result c.pop_front-in-Equal.ensures.items c.requires.left_in

pub returns-in_ok-y-in-Equal-clause-right_coefficients : goal.returns-in_ok-y-in-Equal-clause-right_coefficients
returns-in_ok-y-in-Equal-clause-right_coefficients c =
    coefficients_rest c.args.right.now.items c.pop_front-in-Equal-2.new.self.items c.pop_front-in-Equal-2.result c.pop_front-in-Equal-2.ensures.items c.requires.right_in

pub returns-in_ok-coefficient-in-Greater-clause-left_coefficients :
    goal.returns-in_ok-coefficient-in-Greater-clause-left_coefficients
returns-in_ok-coefficient-in-Greater-clause-left_coefficients c =
    coefficients_rest c.args.left.now.items c.pop_front-in-Greater.new.self.items c.pop_front-in-Greater.result c.pop_front-in-Greater.ensures.items c.requires.left_in
