-- A reader that ends after a number of items: the items that were handed out.
use Rattle.std.specs.Prelude.{◌≡◌, ℕ, ◌+◌, ◌≤◌, ◌^◌, ◌⊎◌, List, [], ◌++◌, length}
use Rattle.ciborium_ll_grammar.specs.declared.spelling.Spelling.TheVariants.{Any}
use Rattle.ciborium_ll_grammar.specs.Items.{AreItems}
use Rattle.cbor_checker.specs.Checking.{HasRead}
use Rattle.cbor_checker.specs.Reading.{BeginsItem}
use Rattle.tool_files.specs.declared.fence.Fence.{Fence}

module _ {R : Type 0} where
  -- The reader within, in its present state. If it gave `01` of `01 02`, it has `02`.
  abbrev pub fence_source : Fence R → R
  fence_source f = f.source

  -- The depth to which items may nest: 256 without `--depth`.
  abbrev pub fence_depth : Fence R → ℕ
  fence_depth f = f.depth

  -- How many items are still to end: 1 of 2 items after `01 82`.
  abbrev pub fence_left : Fence R → ℕ
  fence_left f = f.left

  -- How many reads failed so far: 1 after a read behind the last item.
  abbrev pub fence_failures : Fence R → ℕ
  fence_failures f = f.failures.count

  -- These bytes were handed out. `within`: fewer items have ended than are wanted, and a part of the next item follows
  -- them, which the checker has read. If no item begins with the part, any bytes follow. `fenced`: all items have ended. `lost`: there are more
  -- bytes than can be counted. Of 2 items, `01 82` is within, and `01 80` is fenced.
  pub data IsFenced (items : ℕ) (given : List ℕ) (f : Fence R) : Type 0 where
    within : (count : ℕ) (before part rest : List ℕ) → AreItems Any f.depth count before
        → HasRead Any f.depth part f.checker → given ≡ before ++ (part ++ rest)
        → (rest ≡ []) ⊎ (BeginsItem Any f.depth part → ⊥) → count + f.left ≡ items → IsFenced items given f
    fenced : (before rest : List ℕ) → AreItems Any f.depth items before → given ≡ before ++ rest → f.left ≡ 0
        → IsFenced items given f
    lost : 2 ^ 64 ≤ length given + 1 → f.left ≡ 0 → IsFenced items given f
