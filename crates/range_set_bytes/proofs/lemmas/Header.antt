-- The header: what is wrong with it, and the number of bits.
use Rattle.std.proofs.Common.{◌≡◌, ℕ, ◌+◌, ◌<◌, ◌≤◌, List, [], ◌++◌, length, take, drop, get_or, refl, sym, ap, ◌∙◌, arith, ◌≢◌, append_assoc}
use Rattle.std.proofs.lemmas.List.{get_or_append_left, get_or-take, length-append, length-take, take-append-drop}
use Rattle.std.proofs.lemmas.List.Elements.{All-nil}
use Rattle.rsb_integer.specs.Runs.{Interval}
use Rattle.range_set_bytes.specs.Fault.{Begin, HasReason, IsFault, IsFirstWrong}
use Rattle.range_set_bytes.specs.Format.{bytes_of, bytes_of_runs, header, IsWritable}
use Rattle.range_set_bytes.specs.Leb128.{leb128}
use Rattle.range_set_bytes.specs.declared.fault.Fault.{Fault}

-- The bytes of a set are the header and more.
pub header-first : (n : ℕ) (runs : List Interval)
    → bytes_of n runs ≡ header n ++ (leb128 (length runs) ++ bytes_of_runs 0 runs)
unfolding bytes_of
header-first n runs = refl

empty-writable : (n : ℕ) → IsWritable n []
empty-writable n = record {
  canonical = record { apart = tt; within = All-nil (λ (run : Interval). run.last < n) };
  counted = omega arith;
}

module _ (n : ℕ) (bytes : List ℕ) (place : ℕ) (same : take place bytes ≡ take place (header n))
    (within : place ≤ length bytes) (short : place < 6) where
  header-begun : Begin n (take place bytes)
  header-begun =
      let more = leb128 0 ++ [] in (
        [],
        drop place (header n) ++ more,
        empty-writable n,
        header-first n [] ∙ ap (λ (front : List ℕ). front ++ more) (sym (take-append-drop place (header n)))
            ∙ append_assoc (take place (header n)) (drop place (header n)) more
            ∙ ap (λ (front : List ℕ). front ++ (drop place (header n) ++ more)) (sym same),
      )

  -- The byte there is that of the header.
  header-byte : (runs : List Interval) (more : List ℕ) → place < length bytes
      → bytes_of n runs ≡ take (place + 1) bytes ++ more
      → get_or (header n) place 0 ≡ get_or bytes place 0
  header-byte runs more less is =
      let tail = leb128 (length runs) ++ bytes_of_runs 0 runs in
      let counted : length (take (place + 1) bytes) ≡ place + 1 = omega (arith, length-take (place + 1) bytes) in
      sym (get_or_append_left (header n) tail 0 place (omega arith))
      ∙ ap (λ (all : List ℕ). get_or all place 0) (sym (header-first n runs) ∙ is)
      ∙ get_or_append_left (take (place + 1) bytes) more 0 place (omega arith)
      ∙ get_or-take (place + 1) bytes place 0 (omega arith)

  header-wrong : (place < length bytes → get_or (header n) place 0 ≢ get_or bytes place 0)
      → IsFirstWrong n bytes place
  header-wrong differs = record {
    within = within;
    begun = header-begun;
    stops = λ less begin. differs less (header-byte begin.0 begin.1 less begin.3);
    ends = λ all runs writable is.
        let tail = leb128 (length runs) ++ bytes_of_runs 0 runs in
        let long : length bytes ≡ length (header n ++ tail) = ap length (sym is ∙ header-first n runs) in
        omega (arith, long, length-append (header n) tail);
  }

  pub header-fault : (fault : Fault) → fault.place ≡ place
      → (place < length bytes → get_or (header n) place 0 ≢ get_or bytes place 0)
      → HasReason n bytes fault.reason place → IsFault n bytes fault
  header-fault fault is differs reason = record {
    first = rw is (header-wrong differs);
    reason = rw is reason;
  }
