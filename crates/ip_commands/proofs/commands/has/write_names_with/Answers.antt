use Rattle.std.proofs.Common.{◌≡◌, ◌∙◌, ℕ, List, ◌∷◌, ◌++◌, [], map, sym, ap, subst}
use Rattle.std.proofs.lemmas.List.{map_push}
use Rattle.std.specs.Io.KnownBytes.{Appends}
use Rattle.std.specs.Iterator.Adapters.{zip_first, zip_second}
use Rattle.std.specs.List.{zip}
use Rattle.std.specs.Slice.Iter.{iter_rest}
use Rattle.std.specs.Prelude.{codes}
use Rattle.ip_commands.specs.Answer.{found_outcome, has_address, names_text, names_with}
use Rattle.ip_commands.specs.Files.{Selected, selected}
use Rattle.ip_commands.proofs.lemmas.Appends.{Appends-item}
use Rattle.ip_commands.proofs.lemmas.Names.{found-more, names-all, names-found, names-lacking, names_of, pair_of, zip-yielded}
use Rattle.ip_commands.proofs.commands.has.write_names_with.Given.{Over}
use Rattle.ip_commands.proofs.commands.has.write_names_with.Goals as goal
use Rattle.ip_commands.proofs.commands.has.write_names_with.Goals.{In-None}

-- The list lacks the address.
pub loop-file-preserved : goal.loop-file-preserved
loop-file-preserved g c =
    let test = has_address c.args.address in
    let pairs = map pair_of c.loop-file.yielded in
    let pair : List ℕ × Selected = (c.in-Some.file.now.now, selected c.in-Some.list.now) in
    let same : names_of test (map pair_of (c.loop-file.yielded
    ++ (c.in-Some.file, c.in-Some.list) ∷ [])) ≡ names_of test pairs =
    ap (names_of test) (map_push pair_of c.loop-file.yielded (c.in-Some.file, c.in-Some.list))
    ∙ names-lacking test pairs pair (sym c.has_address.ensures ∙ c.if-has_address.false) in
    record {
      written = subst (λ names. Appends (g.W.Write.contents c.args.output.now)
          (g.W.Write.contents c.loop-file.output) (names_text names)) (sym same)
          c.loop-file.invariant.written;
      ends = c.loop-file.invariant.ends ∙ ap found_outcome (sym same);
    }

-- The list has the address.
pub loop-file-preserved-then-has_address : goal.loop-file-preserved-then-has_address
loop-file-preserved-then-has_address g c =
    let test = has_address c.args.address in
    let pairs = map pair_of c.loop-file.yielded in
    let pair : List ℕ × Selected = (c.in-Some.file.now.now, selected c.in-Some.list.now) in
    let more : names_of test (map pair_of (c.loop-file.yielded
    ++ (c.in-Some.file, c.in-Some.list) ∷ [])) ≡ names_of test pairs ++ pair.0 ∷ [] =
    ap (names_of test) (map_push pair_of c.loop-file.yielded (c.in-Some.file, c.in-Some.list))
    ∙ names-found test pairs pair (sym c.has_address.ensures ∙ c.if-has_address.true) in
    record {
      written = subst (λ names. Appends (g.W.Write.contents c.args.output.now)
          (g.W.Write.contents c.writeln.new.self) (names_text names)) (sym more)
          (Appends-item (λ name. name ++ codes "\n") _ _ _ (names_of test pairs) pair.0
          c.loop-file.invariant.written c.in_ok-writeln.ensures.bytes);
      ends = sym (found-more (names_of test pairs) pair.0) ∙ ap found_outcome (sym more);
    }

-- The names of all files, from those that the loop had.
all-names : (g : Over) (c : In-None g)
    → names_of (has_address c.args.address) (map pair_of c.loop-file.yielded)
    ≡ names_with (has_address c.args.address) (map (λ name. name.now) c.args.files.now)
    (map selected c.args.lists.now)
all-names g c =
    let items = c.loop-file.yielded in
    let first : iter_rest (zip_first c.into_iter-file-iterator.result) ≡ c.args.files.now =
    ap (λ each. iter_rest (zip_first each)) c.into_iter-file-iterator.ensures.into_iter_gives
    ∙ ap iter_rest c.zip-file-items.ensures.first ∙ c.iter.ensures.rest in
    let second : iter_rest (zip_second c.into_iter-file-iterator.result) ≡ c.args.lists.now =
    ap (λ each. iter_rest (zip_second each)) c.into_iter-file-iterator.ensures.into_iter_gives
    ∙ c.zip-file-items.ensures.second.0 in
    names-all (has_address c.args.address) c.args.files.now c.args.lists.now items
    (zip-yielded items c.into_iter-file-iterator.result c.loop-file.file-iterator c.next.new.self
    c.loop-file.yielded_by c.in-None.ensures.steps
    ∙ ap (λ each. zip each (iter_rest (zip_second c.into_iter-file-iterator.result))) first
    ∙ ap (zip c.args.files.now) second)

-- The names of all files were written.
pub returns-clause-names : goal.returns-clause-names
returns-clause-names g c =
    subst (λ names. Appends (g.W.Write.contents c.args.output.now)
    (g.W.Write.contents c.loop-file.output) (names_text names)) (all-names g c)
    c.loop-file.invariant.written

-- The outcome says whether there are any.
pub returns-clause-outcome : goal.returns-clause-outcome
returns-clause-outcome g c = c.loop-file.invariant.ends ∙ ap found_outcome (all-names g c)
