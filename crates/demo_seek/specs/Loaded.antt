-- What a demo that was loaded keeps: the viewer behind each 64th record, and where the next record begins.
use Rattle.std.specs.Prelude.{◌≡◌, ◌+◌, ◌-◌, ◌*◌, ◌/◌, ℕ, List, length, slice_get, Some}
use Rattle.demo_format.specs.declared.head.DemoHead.{DemoHead}
use Rattle.demo_format.specs.Records.{records_of}
use Rattle.demo_replay.specs.demo_view.Stands.{ViewerState}
use Rattle.demo_replay.specs.demo_view.Keeping.{Keeps}
use Rattle.demo_replay.specs.Walking.{Begins, IsViewerAfter}
use Rattle.demo_seek.specs.declared.seeking.Key.{Key}
use Rattle.demo_seek.specs.declared.seeking.TheConstants.{KEY_DISTANCE}

-- the key has what is kept of the viewer behind the first n records, and the place where the next one begins
pub record IsKey (head : DemoHead) (bytes : List ℕ) (n : ℕ) (key : Key) : Type 0 where
  pub from : ViewerState
  pub behind : IsViewerAfter (record { head = head; records = records_of bytes }) n from
  pub kept : Keeps from key.viewer
  pub begins : Begins bytes n key.start

-- a key for each multiple of KEY_DISTANCE below n
pub record AreKeys (head : DemoHead) (bytes : List ℕ) (n : ℕ) (keys : List Key) : Type 0 where
  pub enough : length keys ≡ (n + (KEY_DISTANCE - 1)) / KEY_DISTANCE
  pub each : (i : ℕ) (key : Key) → slice_get keys i ≡ Some key → IsKey head bytes (i * KEY_DISTANCE) key

-- what a demo keeps of the bytes behind its head
pub record IsKept (head : DemoHead) (bytes : List ℕ) (total : ℕ) (kept : List Key) : Type 0 where
  pub count : total ≡ length (records_of bytes)
  pub keys : AreKeys head bytes (total + 1) kept
