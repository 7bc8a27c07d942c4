-- Answers as numbers.
use Rattle.std.specs.Prelude.{ℕ, Bool, true, false, Option, Some, None, Result, Ok, Err}
use Rattle.spdx_calls.specs.declared.buffer.Put.{Put}
use Rattle.spdx_calls.specs.declared.buffer.Put.TheVariants.{Whole, Short}
use Rattle.spdx_calls.specs.declared.fault.Refusal.{Refusal}
use Rattle.spdx_calls.specs.declared.fault.CallFault.{CallFault}
use Rattle.spdx_calls.specs.declared.fault.CallFault.TheVariants.{NotText, Refused, OtherNotText, OtherRefused, LicenseeNotText, Licensee, Unmet, TooMany, BitCount, TooManySets, Memory}
use Rattle.spdx_calls.specs.declared.texts.Answered.{Answered}
use Rattle.spdx_calls.specs.declared.questions.Listing.{Listing}
use Rattle.spdx_calls.specs.declared.questions.Listing.TheVariants.{Unlisted, Current, Deprecated}
use Rattle.spdx_meaning.specs.declared.relation.Relation.{Relation}
use Rattle.spdx_meaning.specs.declared.relation.Relation.TheVariants.{Same, More, Less, Neither}
use Rattle.spdx_c.specs.declared.report.Report.{Report}

-- a status: 0 ok, 1 refused, 2 no text, 3 a licensee refused, 4 a licensee no text, 5 unmet, 6 too
-- many, 7 no fix, 8 short, 9 an argument, 10 no list, 11 memory, 12 too many sets
abbrev pub plain : ℕ → Report
plain s =
    record {
      status = s;
      reason = 0;
      start = 0;
      end = 0;
      number = 0;
      length = 0;
      lines = 0;
      refused = 0;
    }

abbrev pub with_number : ℕ → ℕ → Report
with_number s n =
    record {
      status = s;
      reason = 0;
      start = 0;
      end = 0;
      number = n;
      length = 0;
      lines = 0;
      refused = 0;
    }

abbrev pub with_refusal : ℕ → ℕ → Refusal → Report
with_refusal s n r =
    record {
      status = s;
      reason = r.reason;
      start = r.start;
      end = r.end;
      number = n;
      length = 0;
      lines = 0;
      refused = 0;
    }

abbrev pub of_fault : CallFault → Report
of_fault NotText = plain 2
of_fault (Refused r) = with_refusal 1 0 r
of_fault OtherNotText = with_number 2 1
of_fault (OtherRefused r) = with_refusal 1 1 r
of_fault (LicenseeNotText n) = with_number 4 n
of_fault (Licensee n r) = with_refusal 3 n r
of_fault Unmet = plain 5
of_fault (TooMany n) = with_number 6 n
of_fault (BitCount n) = with_number 9 n
of_fault (TooManySets n) = with_number 12 n
of_fault Memory = plain 11

-- a text that is written, or too long for the buffer
abbrev pub written : ℕ → ℕ → ℕ → ℕ → Report
written s n lines refused =
    record {
      status = s;
      reason = 0;
      start = 0;
      end = 0;
      number = 0;
      length = n;
      lines = lines;
      refused = refused;
    }

abbrev pub put_with : ℕ → ℕ → Put → Report
put_with lines refused (Whole n) = written 0 n lines refused
put_with lines refused (Short n) = written 8 n lines refused

abbrev pub with_length : Put → Report
with_length put = put_with 0 0 put

abbrev pub of_check : Result (Unit {0}) CallFault → Report
of_check (Ok done) = plain 0
of_check (Err fault) = of_fault fault

abbrev pub of_put : Result Put CallFault → Report
of_put (Ok put) = with_length put
of_put (Err fault) = of_fault fault

abbrev pub of_fix : Result (Option Put) CallFault → Report
of_fix (Ok (Some put)) = with_length put
of_fix (Ok None) = plain 7
of_fix (Err fault) = of_fault fault

abbrev pub of_truth : Result Bool CallFault → Report
of_truth (Ok true) = plain 0
of_truth (Ok false) = plain 5
of_truth (Err fault) = of_fault fault

abbrev pub relation_number : Relation → ℕ
relation_number Same = 0
relation_number More = 1
relation_number Less = 2
relation_number Neither = 3

abbrev pub of_relation : Result Relation CallFault → Report
of_relation (Ok relation) = with_number 0 (relation_number relation)
of_relation (Err fault) = of_fault fault

abbrev pub listing_number : Listing → ℕ
listing_number Unlisted = 0
listing_number Current = 1
listing_number Deprecated = 2

abbrev pub of_listing : Result Listing CallFault → Report
of_listing (Ok listing) = with_number 0 (listing_number listing)
of_listing (Err fault) = of_fault fault

abbrev pub of_answered : Result Answered CallFault → Report
of_answered (Ok answered) = put_with answered.summary.lines answered.summary.refused answered.put
of_answered (Err fault) = of_fault fault
