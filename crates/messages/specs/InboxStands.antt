-- What an inbox did, the newest first, and the tie to what it holds: the pieces that it took are those of all parcels that it
-- handed out, and then those of the parcel that waits, or the first ones of the message that is begun.
use Rattle.std.specs.Prelude.{◌≡◌, ℕ, zero, suc, ◌+◌, ◌*◌, ◌<◌, List, [], ◌∷◌, ◌++◌, length, take, drop, Option, Some, None}
use Rattle.messages.specs.declared.form.Form.TheVariants.{Middle}
use Rattle.tn_types.specs.Histories.{Does}
use Rattle.messages.specs.declared.form.ParcelKind.{ParcelKind}
use Rattle.messages.specs.declared.inbox.Stage.{Stage}
use Rattle.messages.specs.declared.inbox.Stage.TheVariants.{Idle, Begun, Whole}
use Rattle.messages.specs.declared.limits.TheConstants.{MAX_SINGLE_BYTES, FIRST_BYTES}
use Rattle.messages.specs.Forms.{form_byte}
use Rattle.messages.specs.Pieces.{Parcel, first_piece, pieces_by, all_pieces}
use Rattle.messages.specs.InboxState.{InboxState, waiting}

pub data InboxEvent : Type 0 where
  Took : (piece : List ℕ) → InboxEvent  -- a piece was taken
  HandedOut : (parcel : Parcel) → InboxEvent  -- a parcel was handed out

abbrev pub took_of : List InboxEvent → List (List ℕ)
took_of [] = []
took_of (Took piece ∷ log) = took_of log ++ piece ∷ []
took_of (HandedOut parcel ∷ log) = took_of log

abbrev pub handed_out : List InboxEvent → List Parcel
handed_out [] = []
handed_out (Took piece ∷ log) = handed_out log
handed_out (HandedOut parcel ∷ log) = handed_out log ++ parcel ∷ []

-- so many whole pieces
abbrev pub middle_pieces : ℕ → List ℕ → List (List ℕ)
middle_pieces zero bytes = []
middle_pieces (suc more) bytes = (form_byte Middle ∷ take MAX_SINGLE_BYTES bytes) ∷ middle_pieces more (drop MAX_SINGLE_BYTES bytes)

-- the pieces of a message of n bytes of which these came: the first, and so many whole ones. Its last is still to come.
pub record IsBegun (n : ℕ) (bytes : List ℕ) (pieces : List (List ℕ)) : Type 0 where
  pub more : ℕ
  pub long : MAX_SINGLE_BYTES < n
  pub open_end : length bytes < n
  pub count : length bytes ≡ FIRST_BYTES + MAX_SINGLE_BYTES * more
  pub are : pieces ≡ first_piece n bytes ∷ middle_pieces more (drop FIRST_BYTES bytes)

abbrev pub ComesTo : Stage → List ℕ → List (List ℕ) → Type 0
ComesTo Idle bytes pieces = pieces ≡ []
ComesTo (Begun n) bytes pieces = IsBegun n bytes pieces
ComesTo (Whole kind) bytes pieces = pieces ≡ pieces_by kind bytes

pub record InboxStandsFor (b : InboxState) (log : List InboxEvent) : Type 0 where
  pub last_pieces : List (List ℕ)
  pub took : took_of log ≡ all_pieces (handed_out log) ++ last_pieces
  pub comes : ComesTo b.stage b.gathered last_pieces

-- what one piece has in it whole is taken
abbrev pub TakesAlone : InboxState → ParcelKind → List ℕ → InboxState → Type 0
TakesAlone old kind bytes new = (piece : List ℕ) → pieces_by kind bytes ≡ piece ∷ [] → Does InboxStandsFor old (Took piece) new

-- ---- what was whole

abbrev pub or_none : Option Parcel → List Parcel
or_none None = []
or_none (Some parcel) = parcel ∷ []

-- all parcels that were whole: those handed out, and the one that waits
abbrev pub whole_parcels : InboxState → List InboxEvent → List Parcel
whole_parcels b log = handed_out log ++ or_none (waiting b)
