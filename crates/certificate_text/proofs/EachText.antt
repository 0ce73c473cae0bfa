-- Each text is evidence or has a first fault, in one way.
use Rattle.certificate_text.proofs.Prelude.{List, Declaration, Format, EachIsRead, ValuesAreUnique, FaultIsUnique, ValuesHaveNoFault, AreTold, are_told, certificate_kind, IsEvidence, IsFirstFault, certificate_steps}
use Rattle.certificate_text.proofs.Reader.{reader}

module _ (most : Format) (ds : List Declaration) where
  told : AreTold (IsEvidence most ds) (IsFirstFault most ds)
  told = are_told (certificate_kind most ds) (certificate_steps most ds) (reader most ds)

  pub each_text_is_read : EachIsRead (IsEvidence most ds) (IsFirstFault most ds)
  each_text_is_read = told.each_is_read

  pub evidence_is_unique : ValuesAreUnique (IsEvidence most ds) (IsFirstFault most ds)
  evidence_is_unique = told.values_are_unique

  pub first_fault_is_unique : FaultIsUnique (IsEvidence most ds) (IsFirstFault most ds)
  first_fault_is_unique = told.fault_is_unique

  pub evidence_has_no_fault : ValuesHaveNoFault (IsEvidence most ds) (IsFirstFault most ds)
  evidence_has_no_fault = told.values_have_no_fault
