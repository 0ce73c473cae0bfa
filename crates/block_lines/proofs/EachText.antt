-- Each text has bases or a first fault, in one way.
use Rattle.block_lines.proofs.Prelude.{◌⊎◌, List, sym, subst, inl, inr, Fault, IsBlocks, EachIsRead, ValuesAreUnique, FaultIsUnique, ValuesHaveNoFault, AreTold, are_told, Basis, BasisTerms, basis_kind, by_terms, IsBases, IsFirstFault, basis_steps, Declaration}
use Rattle.block_lines.proofs.BasisValues.{same_lists, same_basis, bases_with, are_canonical}
use Rattle.block_lines.proofs.Reader.{reader}

-- by the terms of their polynomials
told : (ds : List Declaration) → AreTold (IsBlocks (basis_kind ds)) (IsFirstFault ds)
told ds = are_told (basis_kind ds) (basis_steps ds) (reader ds)

pub each_text_is_read : (ds : List Declaration) → EachIsRead (IsBases ds) (IsFirstFault ds)
each_text_is_read ds bytes = by_cases ((told ds).each_is_read bytes)
  where
    by_cases : ((vs : List BasisTerms) × IsBlocks (basis_kind ds) bytes vs) ⊎ ((fault : Fault) × IsFirstFault ds bytes fault) → ((bases : List Basis) × IsBases ds bytes bases) ⊎ ((fault : Fault) × IsFirstFault ds bytes fault)
    by_cases (inl has) = let found = bases_with has.0 (are_canonical ds bytes has.0 has.1) in inl (found.0, subst (IsBlocks (basis_kind ds) bytes) (sym found.1) has.1)
    by_cases (inr wrong) = inr wrong

pub bases_are_unique : (ds : List Declaration) → ValuesAreUnique (IsBases ds) (IsFirstFault ds)
bases_are_unique ds bytes one other one_is other_is =
    same_lists by_terms same_basis one other ((told ds).values_are_unique bytes _ _ one_is other_is)

pub first_fault_is_unique : (ds : List Declaration) → FaultIsUnique (IsBases ds) (IsFirstFault ds)
first_fault_is_unique ds = (told ds).fault_is_unique

pub bases_have_no_fault : (ds : List Declaration) → ValuesHaveNoFault (IsBases ds) (IsFirstFault ds)
bases_have_no_fault ds bytes bases fault is wrong = (told ds).values_have_no_fault bytes _ fault is wrong
