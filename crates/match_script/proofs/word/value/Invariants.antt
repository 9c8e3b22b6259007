use Rattle.std.proofs.Common.{◌≡◌, ◌^◌, ◌-◌, min, take, drop}
use Rattle.std.specs.List.{list_all}
use Rattle.std.specs.Str.Parse.{digits_value}
use Rattle.match_script.specs.Words.{is_digit}
use Rattle.match_script.proofs.word.value.Given as goal

abbrev pub invariant-loop-b : goal.invariant-loop-b
invariant-loop-b l = record {
  value : l.value ≡ min (digits_value 10 (take l.b-index l.word)) (2 ^ 64 - 1);
  digits : list_all is_digit (drop l.b-index l.word) ≡ list_all is_digit l.word;
}
