-- Each text has models or a first fault, in one way.
use Rattle.model_text.proofs.Prelude.{List, Declaration, EachIsRead, ValuesAreUnique, FaultIsUnique, ValuesHaveNoFault, AreTold, are_told, model_kind, IsModels, IsFirstFault, model_steps}
use Rattle.model_text.proofs.Reader.{reader}

module _ (ds : List Declaration) where
  told : AreTold (IsModels ds) (IsFirstFault ds)
  told = are_told (model_kind ds) (model_steps ds) (reader ds)

  pub each_text_is_read : EachIsRead (IsModels ds) (IsFirstFault ds)
  each_text_is_read = told.each_is_read

  pub models_are_unique : ValuesAreUnique (IsModels ds) (IsFirstFault ds)
  models_are_unique = told.values_are_unique

  pub first_fault_is_unique : FaultIsUnique (IsModels ds) (IsFirstFault ds)
  first_fault_is_unique = told.fault_is_unique

  pub models_have_no_fault : ValuesHaveNoFault (IsModels ds) (IsFirstFault ds)
  models_have_no_fault = told.values_have_no_fault
