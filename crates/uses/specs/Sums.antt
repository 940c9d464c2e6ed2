-- The sum of an array of integers.
use Rattle.std.specs.Prelude.{◌≡◌, ℕ, zero, suc, ◌<◌, ℤ, pos, negsuc, ◌+ℤ◌, FitsSigned, ◌⊎◌, List, [], ◌++◌, Option}
use Rattle.std.specs.Prelude.{Bool, true, false, Some, None, Result, Ok, Err}
use Rattle.std.specs.Int.{w64}
use Rattle.ciborium_ll.specs.Types.Read.{Ghosts}
use Rattle.ciborium_ll.specs.Types.Header.{Header}
use Rattle.ciborium_ll.specs.Types.Header.TheVariants as h
use Rattle.ciborium_ll.specs.Types.Decoder.{Decoder}
use Rattle.ciborium_ll.specs.Title.{IsTitle}
use Rattle.ciborium_ll.specs.Decoding.{MovesOn, ReadsPast, DecoderPullAnswer, PullsTitle}
use Rattle.uses.specs.declared.sums.SumError.{SumError}
use Rattle.uses.specs.declared.sums.SumError.TheVariants as s

-- The integer of a header (RFC 7049, 2.1): n, or -1 - n. The title `05` is 5, and `24` is -5.
abbrev pub IsInteger : Header → ℤ → Type 0
IsInteger (h.Positive n) number = number ≡ pos n
IsInteger (h.Negative n) number = number ≡ negsuc n
IsInteger header number = ⊥

-- Whether a break may end the array with this header: the array has an indefinite length, as after `9f` (RFC 7049,
-- 2.2.1).
abbrev pub is_closable : Header → Bool
is_closable (h.Array None) = true
is_closable header = false

-- `HaveSum count bytes total`: the bytes are titles of `count` integers, and the total is their sum (RFC 7049, 2.1).
-- The bytes `01 20` have 2 integers and the total 0.
pub data HaveSum : ℕ → List ℕ → ℤ → Type 0 where
  none : HaveSum zero [] (pos 0)
  more : {count : ℕ} {bytes title : List ℕ} {total : ℤ} {header : Header} (number : ℤ) → HaveSum count bytes total
      → IsTitle title header → IsInteger header number → HaveSum (suc count) (bytes ++ title) (total +ℤ number)

module _ {R E : Type 0} (source : Ghosts R E) where
  -- ---- one integer more

  -- An integer came, and the sum includes it: after `20` the sum is the total less 1.
  pub record AddsInteger (total : ℤ) (old : Decoder R) (sum : ℤ) (new : Decoder R) : Type 0 where
    pub header : Header
    pub pulled : PullsTitle source old header new
    pub number : ℤ
    pub is_integer : IsInteger header number
    pub sum-is : sum ≡ total +ℤ number

  -- A header came that is no integer, and no break that may end the array: that of `60`, or of `ff` if the length is
  -- definite.
  pub record MeetsNoInteger (closable : Bool) (old : Decoder R) (at : ℕ) (new : Decoder R) : Type 0 where
    pub header : Header
    pub pulled : PullsTitle source old header new
    pub place : at ≡ old.offset
    pub no_integer : (number : ℤ) → IsInteger header number → ⊥
    pub no_end : closable ≡ true → header ≡ h.Break → ⊥

  -- An integer came with which the sum is out of range: `01`, for example, if the total is 2^63 - 1.
  pub record PassesRange (total : ℤ) (old : Decoder R) (at : ℕ) (new : Decoder R) : Type 0 where
    pub header : Header
    pub pulled : PullsTitle source old header new
    pub place : at ≡ old.offset
    pub number : ℤ
    pub is_integer : IsInteger header number
    pub no_room : FitsSigned w64 (total +ℤ number) → ⊥

  -- There is no sum with the next integer. `closable` says if a break may end the array. If none may, `ff` gives
  -- `NoNumber`.
  abbrev pub StopsNext : Bool → ℤ → Decoder R → SumError E → Decoder R → Type 0
  StopsNext closable total old (s.Read error) new = DecoderPullAnswer source old (Err error) new
  StopsNext closable total old (s.NoArray at) new = ⊥
  StopsNext closable total old (s.NoNumber at) new = MeetsNoInteger closable old at new
  StopsNext closable total old (s.OutOfRange at) new = PassesRange total old at new

  -- The sum with the next integer, or a break (RFC 7049, 2.1 and 2.2.1). If the total is 3, `02` gives 5, and `ff`
  -- gives `None`.
  abbrev pub AddsNext : ℤ → Decoder R → Result (Option ℤ) (SumError E) → Decoder R → Type 0
  AddsNext total old (Ok (Some sum)) new = AddsInteger total old sum new
  AddsNext total old (Ok None) new = PullsTitle source old h.Break new
  AddsNext total old (Err error) new = StopsNext true total old error new

  -- ---- the integers of an array

  -- Titles of `count` integers were read, whose sum is the total: for example, `01 20` with a `count` of 2 and a total
  -- of 0.
  pub record ReadsIntegers (old : Decoder R) (count : ℕ) (total : ℤ) (new : Decoder R) : Type 0 where
    pub bytes : List ℕ
    pub have_sum : HaveSum count bytes total
    pub passed : ReadsPast source old bytes new

  -- The array ends after `count` integers: its header counts as many, or a break came (RFC 7049, 2.2.1). The array `82`
  -- ends after 2 integers, and `9f` at `ff`.
  abbrev pub EndsArray : Header → ℕ → Decoder R → Decoder R → Type 0
  EndsArray (h.Array (Some len)) count between new = (count ≡ len) × (new ≡ between)
  EndsArray (h.Array None) count between new = PullsTitle source between h.Break new
  EndsArray header count between new = ⊥

  -- One more integer may follow after `count` integers: after `82 01` it may, and after `82 01 02` it may not.
  abbrev pub ArrayGoesOn : Header → ℕ → Type 0
  ArrayGoesOn (h.Array (Some len)) count = count < len
  ArrayGoesOn (h.Array None) count = Unit {0}
  ArrayGoesOn header count = ⊥

  -- All integers of the array were read (RFC 7049, 2.1 and 2.2.1). After `82`, over `01 02` the total is 3.
  pub record SumsAll (header : Header) (old : Decoder R) (total : ℤ) (new : Decoder R) : Type 0 where
    pub count : ℕ
    pub between : Decoder R
    pub reads : ReadsIntegers old count total between
    pub ends : EndsArray header count between new

  -- Some integers were read, and there is no sum with the next (RFC 7049, 2.1 and 2.2.1). After `82`, over `01 60` this
  -- is at `60`.
  pub record SumStops (header : Header) (old : Decoder R) (error : SumError E) (new : Decoder R) : Type 0 where
    pub count : ℕ
    pub total : ℤ
    pub between : Decoder R
    pub goes_on : ArrayGoesOn header count
    pub reads : ReadsIntegers old count total between
    pub stops : StopsNext (is_closable header) total between error new

  -- The sum of the integers after the header of an array, by the answer. After `9f`, over `05 24 ff` it is 0.
  abbrev pub SumsBehind : Header → Decoder R → Result ℤ (SumError E) → Decoder R → Type 0
  SumsBehind header old (Ok total) new = SumsAll header old total new
  SumsBehind header old (Err error) new = SumStops header old error new

  -- The header of an array came, and the result is that of the integers after it: `Ok(5)`, for example, for `81 05`.
  pub record OpensArray (old : Decoder R) (result : Result ℤ (SumError E)) (new : Decoder R) : Type 0 where
    pub len : Option ℕ
    pub opened : Decoder R
    pub pulled : PullsTitle source old (h.Array len) opened
    pub sums : SumsBehind (h.Array len) opened result new

  -- A header came that begins no array: that of `a0`, for example.
  pub record MeetsNoArray (old : Decoder R) (at : ℕ) (new : Decoder R) : Type 0 where
    pub header : Header
    pub pulled : PullsTitle source old header new
    pub place : at ≡ old.offset
    pub no_array : (len : Option ℕ) → header ≡ h.Array len → ⊥

  -- The sum of an array, or the reason that there is none, by the answer (RFC 7049, 2.1). For `82 01 20` it is 0.
  abbrev pub SumsOrStops : Decoder R → Result ℤ (SumError E) → Decoder R → Type 0
  SumsOrStops old (Ok total) new = OpensArray old (Ok total) new
  SumsOrStops old (Err (s.Read error)) new =
      DecoderPullAnswer source old (Err error) new ⊎ OpensArray old (Err (s.Read error)) new
  SumsOrStops old (Err (s.NoArray at)) new = MeetsNoArray old at new
  SumsOrStops old (Err (s.NoNumber at)) new = OpensArray old (Err (s.NoNumber at)) new
  SumsOrStops old (Err (s.OutOfRange at)) new = OpensArray old (Err (s.OutOfRange at)) new

  -- The effect of `sum_numbers`, with the facts that it keeps: the decoder stays as strict as it was, and its offset
  -- never falls. For `80` the sum is 0, and the offset rises by 1.
  pub record SumsArray (old : Decoder R) (result : Result ℤ (SumError E)) (new : Decoder R) : Type 0 where
    pub sums : SumsOrStops old result new
    pub moves_on : MovesOn source old new
