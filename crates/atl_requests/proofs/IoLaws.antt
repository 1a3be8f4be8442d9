-- Laws on reading and writing in pieces: the bytes read or written so far, with those of one more call. `before`,
-- `between` and `after` are the bytes, if they are known, that a reader has left or that a writer holds. `seen` are the
-- bytes read before a call, and `new` those read after it; `sent` are those written before it, or their number. `piece`
-- are the bytes of the call, and `count` is their number. The verdict More says that bytes are missing.
use Rattle.std.proofs.Common.{◌≡◌, ℕ, ◌+◌, ◌-◌, ◌<◌, List, [], ◌++◌, length, take, drop, Option, Some, None, sym, ap, ◌∙◌, subst, inr, arith}
use Rattle.std.specs.Io.KnownBytes.{Keeps, Appends, Consumes}
use Rattle.std.proofs.lemmas.List.{append_assoc, append-nil, length-append}
use Rattle.std.specs.Prelude.{Ok, Err}
use Rattle.atl_requests.specs.declared.io.HttpFault.{HttpFault}
use Rattle.atl_requests.specs.declared.io.HttpFault.TheVariants.{Cut, ReadFault, WriteFault, Memory}
use Rattle.atl_parsing.specs.declared.request.Verdict.TheVariants.{More}
use Rattle.atl_parsing.specs.Heads.{Judges, ReadsNoFurther, IsShortBy, ComesTo}
use Rattle.atl_parsing.specs.declared.request.Progress.{Progress}
use Rattle.atl_parsing.specs.declared.request.Progress.TheVariants.{Missing}
use Rattle.atl_requests.specs.Io.{ReadsMore, Receives}
use Rattle.std.proofs.Math.Seq.{take-add}

-- if the bytes `seen` were read from `before` to `between`, and `piece` from there to `after`, then `seen ++ piece` was
-- read from `before` to `after` (`Consumes`)
pub consumes_more : (before between after : Option (List ℕ)) (seen piece : List ℕ) → Consumes before between seen
    → Consumes between after piece → Consumes before after (seen ++ piece)
consumes_more None between after seen piece h k = tt
consumes_more (Some xs) None after seen piece h k = absurd h
consumes_more (Some xs) (Some ys) None seen piece h k = absurd k
consumes_more (Some xs) (Some ys) (Some zs) seen piece h k =
    h ∙ ap (λ l. seen ++ l) k ∙ sym (append_assoc seen piece zs)

-- if the bytes `seen` were read from `before` to `between`, and none after that, `seen` was read from `before` to
-- `after`
pub consumes_kept : (before between after : Option (List ℕ)) (seen : List ℕ) → Consumes before between seen
    → Keeps between after → Consumes before after seen
consumes_kept None between after seen h k = tt
consumes_kept (Some xs) None after seen h k = absurd h
consumes_kept (Some xs) (Some ys) None seen h k = absurd k
consumes_kept (Some xs) (Some ys) (Some zs) seen h k = h ∙ ap (λ l. seen ++ l) (sym k)

-- if the bytes `sent` were written from `before` to `between`, and `piece` from there to `after`, then `sent ++ piece`
-- was written from `before` to `after` (`Appends`)
pub appends_more : (before between after : Option (List ℕ)) (sent piece : List ℕ) → Appends before between sent
    → Appends between after piece → Appends before after (sent ++ piece)
appends_more None between after sent piece h k = tt
appends_more (Some xs) None after sent piece h k = absurd h
appends_more (Some xs) (Some ys) None sent piece h k = absurd k
appends_more (Some xs) (Some ys) (Some zs) sent piece h k = k ∙ ap (λ l. l ++ piece) h ∙ append_assoc xs sent piece

-- if the first `sent` of the bytes were written, and then `count` of those left, the first `sent + count` were written
pub appends_next : (before between after : Option (List ℕ)) (bytes : List ℕ) (sent count : ℕ)
    → Appends before between (take sent bytes) → Appends between after (take count (drop sent bytes))
    → Appends before after (take (sent + count) bytes)
appends_next before between after bytes sent count h k =
    let P : List ℕ → Type 0 = λ l. Appends before after l in
    subst P (sym (take-add sent count bytes)) (appends_more before between after (take sent bytes) (take count (drop sent bytes)) h k)

-- ---- reading

-- If the bytes `seen` were read and have the verdict More, and the next read ends in a fault, reading the request ends
-- in it (`Receives`). With Cut and ReadFault `new` was read and has the verdict More; with Cut the input has ended.
pub fault_ends_reading : (before between after : Option (List ℕ)) (seen new : List ℕ) (fault : HttpFault)
    → Consumes before between seen → Judges seen More → ReadsMore between after seen new (Err fault)
    → Receives before after new (Err fault)
fault_ends_reading before between after seen new Cut h judged (kept, at_end, same) =
    (subst (λ l. Consumes before after l) (sym same) (consumes_kept before between after seen h kept), subst (λ l. Judges l More) (sym same) judged, at_end)
fault_ends_reading before between after seen new ReadFault h judged (kept, same) =
    (subst (λ l. Consumes before after l) (sym same) (consumes_kept before between after seen h kept), subst (λ l. Judges l More) (sym same) judged)
fault_ends_reading before between after seen new WriteFault h judged none = absurd none
fault_ends_reading before between after seen new Memory h judged done = tt

-- if the bytes `seen` were read from `before` to `between`, and one more read added its piece to them (`new`), then
-- `new` was read from `before` to `after`
pub collected_bytes_are_read : (before between after : Option (List ℕ)) (seen new : List ℕ) (count : ℕ)
    → Consumes before between seen → ReadsMore between after seen new (Ok count) → Consumes before after new
collected_bytes_are_read before between after seen new count h (piece, is, few, more, same) =
    subst (λ l. Consumes before after l) (sym same) (consumes_more before between after seen piece h more)

-- If the bytes before the last read, which ended with Ok, had the verdict More, no read was done after the request was
-- whole or refused (`ReadsNoFurther`).
pub read_so_far : (between after : Option (List ℕ)) (seen new : List ℕ) (count : ℕ) → Judges seen More
    → ReadsMore between after seen new (Ok count) → ReadsNoFurther new
read_so_far between after seen new count h (piece, is, few, more, same) =
    inr (seen, piece, same, omega (arith, is, few), h)

-- ---- the number of missing bytes

-- for the loop of `receive_in`: if a count of missing bytes is the right progress for the bytes `seen` (`ComesTo`), it
-- is right for the equal bytes `items`
pub missing_of_equal : (seen items : List ℕ) (progress : Progress) (count : ℕ) → seen ≡ items → progress ≡ Missing count
    → ComesTo seen progress → ComesTo items (Missing count)
missing_of_equal seen items progress count e f h = subst (λ l. ComesTo l (Missing count)) e (subst (ComesTo seen) f h)

-- the verdict on bytes is More, as long as a count of bytes is missing after them
pub more_while_missing : (items : List ℕ) (count : ℕ) → ComesTo items (Missing count) → Judges items More
more_while_missing items count (some, short) = subst (λ l. Judges l More) (append-nil items) (short [] some)

-- if at least `missing` bytes were missing, and a read gave `count` of them, at least `missing - count` are missing
-- after it
pub short_by_less : (between after : Option (List ℕ)) (seen new : List ℕ) (missing count : ℕ)
    → ComesTo seen (Missing missing) → ReadsMore between after seen new (Ok count) → IsShortBy new (missing - count)
short_by_less between after seen new missing count (some, short) (piece, is, few, came, same) more fewer =
    let together : length (piece ++ more) < missing = (let k = length-append piece more in omega (arith, k, is, fewer)) in
    subst (λ l. Judges l More) (sym (append_assoc seen piece more) ∙ ap (λ l. l ++ more) (sym same)) (short (piece ++ more) together)

-- for the loop of `receive_in`: if with fewer than `count` further bytes no request is whole (`IsShortBy`), this holds
-- of equal bytes too
pub short_of_equal : (seen items : List ℕ) (count : ℕ) → seen ≡ items → IsShortBy items count → IsShortBy seen count
short_of_equal seen items count e short = subst (λ l. IsShortBy l count) (sym e) short
