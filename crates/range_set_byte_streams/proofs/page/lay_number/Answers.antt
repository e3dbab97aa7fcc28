use Rattle.std.proofs.Common.{◌+◌, ◌%◌, ◌/◌, ◌++◌, [], ◌∷◌, arith, refl, subst, sym}
use Rattle.range_set_bytes.specs.Leb128.{leb128}
use Rattle.range_set_bytes.proofs.lemmas.Leb128.{pushed-last, pushed-more}
use Rattle.range_set_byte_streams.specs.Transfer.{HasWritten}
use Rattle.std.proofs.lemmas.Result.{err_from_is_err_and}
use Rattle.range_set_byte_streams.proofs.lemmas.Written.{part-then, sent-last, written-then}
use Rattle.range_set_byte_streams.proofs.page.lay_number.Goals as goal

pub returns-in_err-lay_byte : goal.returns-in_err-lay_byte
returns-in_err-lay_byte g c =
    let rest = c.loop-rest.rest in
    let page = c.loop-rest.page.items in
    let split = sym (pushed-more page (page ++ leb128 rest) rest (omega arith) refl) in
    let passed = err_from_is_err_and c.from_residual.result c.from_residual.ensures.1 in
    rw passed.1 (part-then _ _ _ (c.args.page.now.items ++ leb128 c.args.number)
    (page ++ (128 + rest % 128) ∷ []) (leb128 (rest / 128))
    (subst (HasWritten _ _ (c.args.page.now.items ++ leb128 c.args.number)) split c.loop-rest.invariant)
    c.in_err-lay_byte.ensures)

pub loop-rest-preserved : goal.loop-rest-preserved
loop-rest-preserved g c =
    let rest = c.loop-rest.rest in
    let page = c.loop-rest.page.items in
    let split = sym (pushed-more page (page ++ leb128 rest) rest (omega arith) refl) in
    written-then _ _ _ (c.args.page.now.items ++ leb128 c.args.number)
    (page ++ (128 + rest % 128) ∷ []) c.lay_byte.new.page.items (leb128 (rest / 128))
    (subst (HasWritten _ _ (c.args.page.now.items ++ leb128 c.args.number)) split c.loop-rest.invariant)
    c.in_ok-lay_byte.ensures

pub returns : goal.returns
returns g c =
    let rest = c.loop-rest.rest in
    let page = c.loop-rest.page.items in
    let split = sym (pushed-last page (page ++ leb128 rest) rest (omega arith) refl) in
    sent-last c.lay_byte-2.result _ _ _ (c.args.page.now.items ++ leb128 c.args.number)
    (page ++ rest ∷ []) c.lay_byte-2.new.page.items
    (subst (HasWritten _ _ (c.args.page.now.items ++ leb128 c.args.number)) split c.loop-rest.invariant)
    c.lay_byte-2.ensures
