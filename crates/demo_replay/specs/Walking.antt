-- Walking over the records of a demo with a viewer.
use Rattle.std.specs.Prelude.{◌≡◌, ◌+◌, ◌≤◌, ℕ, List, [], length, take, drop, Some}
use Rattle.demo_format.specs.declared.head.DemoHead.{DemoHead}
use Rattle.demo_format.specs.Head.{head_in}
use Rattle.demo_format.specs.Records.{front_length, records_of, rest_of, body_of, IsRecord}
use Rattle.demo_view.specs.Viewing.{viewed}
use Rattle.demo_view.specs.Stands.{ViewerState, StandsFor, terms_of}
use Rattle.demo_replay.specs.Replaying.{terms_in}

-- a demo: its head and its records
pub record DemoState : Type 0 where
  pub head : DemoHead
  pub records : List (List ℕ)

-- the demo of these bytes
abbrev pub demo_in : List ℕ → DemoState
demo_in bytes = record { head = head_in bytes; records = records_of (body_of bytes) }

-- a viewer that was given the first n records, and no event of it waits
pub record IsViewerAfter (d : DemoState) (n : ℕ) (v : ViewerState) : Type 0 where
  pub stands : StandsFor v (viewed (terms_in d.head) (take n d.records))
  pub terms : terms_of v ≡ terms_in d.head
  pub quiet : v.events.ready ≡ []

-- the record of these bytes stands whole at a place
pub record IsNext (bytes : List ℕ) (start : ℕ) (next : List ℕ) : Type 0 where
  pub front : front_length (drop start bytes) ≡ Some (length next)
  pub value : next ≡ take (length next) (drop 2 (drop start bytes))
  pub fits : start + (2 + length next) ≤ length bytes
  pub each : IsRecord next

-- the records from number n on begin at a place
pub record Begins (bytes : List ℕ) (n start : ℕ) : Type 0 where
  pub within : start ≤ length bytes
  pub few : n ≤ length (records_of bytes)
  pub records : records_of (drop start bytes) ≡ drop n (records_of bytes)
  pub rest : rest_of (drop start bytes) ≡ rest_of bytes
