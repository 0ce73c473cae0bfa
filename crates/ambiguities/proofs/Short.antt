-- Overlap words are short enough to be measured.
use Rattle.ambiguities.proofs.Prelude.{◌≤◌, ℕ, List, length, take, ap, arith, All, length-append, length-take, Compare, measured_letters, Rule, IsRule, rule_at-all, Kind, Overlap, Inclusion, Ambiguity, IsAmbiguity, joined_word, overlap_word_of}
use Rattle.ambiguities.proofs.Joined.{overlap_word-is}
use Rattle.ambiguities.proofs.Leads.{short_leads}

joined-short : (kind : Kind) (p q : List ℕ) (place : ℕ) → length p ≤ 500 → length q ≤ 500 → length (joined_word kind p q place) ≤ 1000
joined-short Overlap p q place first second = omega (arith, first, second, length-append (take place p) q, length-take place p)
joined-short Inclusion p q place first second = omega (arith, first)

pub overlap_words-short : (letters : ℕ) (compare : Compare) (rules : List Rule) (a : Ambiguity) → All (IsRule letters compare) rules → IsAmbiguity rules a
    → length (overlap_word_of rules a) ≤ measured_letters
overlap_words-short letters compare rules a each is =
    let short = short_leads letters compare rules each in
    let one : length is.first.lead ≤ 500 = rule_at-all (λ (g : Rule). length g.lead ≤ 500) rules a.i is.first is.first_numbered short in
    let other : length is.second.lead ≤ 500 = rule_at-all (λ (g : Rule). length g.lead ≤ 500) rules a.j is.second is.second_numbered short in
    omega (arith, joined-short a.kind is.first.lead is.second.lead a.place one other, ap length (overlap_word-is rules a is))
