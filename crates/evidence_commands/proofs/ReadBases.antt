-- Bases that a text has can be checked.
use Rattle.evidence_commands.proofs.Prelude.{◌≤◌, length, all_with, Basis, IsBasisOver, rule_limit, are_few, IsReadableBasis, ReadBasesAreReadable}

pub read_bases_are_readable : ReadBasesAreReadable
read_bases_are_readable ds bytes bases is over =
    all_with (λ (b : Basis). length b.rules ≤ rule_limit) (IsBasisOver ds) (IsReadableBasis ds) (λ b few letters. record { few = few; over = letters }) bases (are_few ds bytes bases is) over
