-- How the next line is found: bytes come of the source until the line is there.
use Rattle.std.proofs.Common.{◌≡◌, inl, inr, ℕ, ◌+◌, ◌<◌, ◌≤◌, Bool, true, false, List, [], ◌∷◌, ◌++◌, length, refl, sym, ap, ◌∙◌, subst, append_assoc, arith, length-append, Option, Ok, Err, if◌then◌else◌, append-nil, drop_at}
use Rattle.std.specs.Io.KnownBytes.{IsAtEnd}
use Rattle.std.proofs.KnownBytes.{Consumes-nil}
use Rattle.std.proofs.lemmas.List.Elements.{All-append, All-drop}
use Rattle.n2k_wire.specs.Entry.{longest_line}
use Rattle.n2k_run.specs.declared.blocks.Next.{Next}
use Rattle.n2k_run.specs.declared.blocks.Next.TheVariants.{Line, Long, End}
use Rattle.n2k_run.specs.declared.device.Failed.{Failed}
use Rattle.n2k_run.specs.Blocks.{BlocksView, Answers, FirstLine, FirstLong, GivesNext, HasNoFeed, ReplacesLong, Stays, CallsAre, passed, unanswered}
use Rattle.n2k_run.specs.Device.{one_more}
use Rattle.n2k_run.specs.Inner.Block.{MakesRoom, Reads}
use Rattle.n2k_run.specs.Lines.{without_return}
use Rattle.n2k_run.specs.Reading.{OutlastsReads, most_reads}
use Rattle.n2k_run.specs.Inner.Reading.{Gains}
use Rattle.n2k_run.proofs.Calls.{one_more_at_most}
use Rattle.n2k_run.proofs.Feeds.{is_plain, long_chunk, long_after, length-passed, passed-no_feed, split_past, unanswered-no_feed}

-- if no line ends in the bytes or their placeholder, none ends in all of them
pub no_feed_whole : (whole bytes : List ℕ) → Stays whole bytes → HasNoFeed bytes → HasNoFeed whole
no_feed_whole whole bytes (inl same) none = subst HasNoFeed same none
no_feed_whole whole bytes (inr r) none =
    let all : HasNoFeed (passed ++ r.rest) = subst HasNoFeed r.bytes_are none in
    let rest : HasNoFeed r.rest = subst HasNoFeed (drop_at passed r.rest (longest_line + 1) length-passed) (All-drop is_plain (longest_line + 1) (passed ++ r.rest) all) in
    subst HasNoFeed (sym r.whole_is) (All-append is_plain r.prefix r.rest r.no_feed rest)

pub stays_more : (whole bytes more : List ℕ) → Stays whole bytes → Stays (whole ++ more) (bytes ++ more)
stays_more whole bytes more h = grind (arith, append_assoc)

-- the replaced bytes are no shorter
whole-long : (whole bytes : List ℕ) → Stays whole bytes → longest_line + 1 < length bytes → longest_line + 1 < length whole
whole-long whole bytes h long = grind (arith, length-append)

stays_room : (whole bytes after : List ℕ) → HasNoFeed whole → Stays whole bytes → MakesRoom bytes after → Stays whole after
stays_room whole bytes after none stays h = grind (arith, append-nil, whole-long)

pub calls_more : (c₀ c c' r₀ r r' : ℕ) → CallsAre c₀ c r₀ r → c' ≡ one_more c → r' ≡ r + 1 → CallsAre c₀ c' r₀ r'
calls_more c₀ c c' r₀ r r' so_far is more = grind arith

-- the read limit is reached
pub calls_end : (calls₀ calls reads : ℕ) → CallsAre calls₀ calls 0 reads → reads ≡ most_reads → OutlastsReads calls₀ calls
calls_end calls₀ calls reads h all = grind arith

-- nothing came yet
pub reads_none : (held : BlocksView) (left : Option (List ℕ)) (calls : ℕ) → Reads 0 held held left left calls calls
reads_none held left calls = record { came = []; given = Consumes-nil left; answer = inl (sym (append-nil (unanswered held))); called = (omega arith, inl refl); few = omega arith }

pub reads_room : (old mid new : BlocksView) (left₀ left : Option (List ℕ)) (calls₀ calls : ℕ) → Reads 0 old mid left₀ left calls₀ calls → HasNoFeed mid.kept → MakesRoom (unanswered mid) (unanswered new) → new.reads ≡ mid.reads → Reads 0 old new left₀ left calls₀ calls
reads_room old mid new left₀ left calls₀ calls so_far none room reads = grind (arith, unanswered-no_feed mid none, no_feed_whole, stays_room)

unanswered_gained : (mid new : BlocksView) (gained : List ℕ) → new.is_passing ≡ mid.is_passing → new.kept ≡ mid.kept ++ gained → unanswered new ≡ unanswered mid ++ gained
unanswered_gained mid new gained passing kept = grind (arith, append_assoc)

-- one call more, which gave a byte or is counted as one that gave none
pub reads_more : (idle : ℕ) (old mid new : BlocksView) (left₀ left left' : Option (List ℕ)) (calls₀ calls calls' : ℕ) → Reads 0 old mid left₀ left calls₀ calls → Gains mid.kept new.kept left left' → length mid.kept < length new.kept + idle → new.is_passing ≡ mid.is_passing → new.reads ≡ mid.reads + 1 → calls' ≡ one_more calls
    → Reads idle old new left₀ left' calls₀ calls'
reads_more idle old mid new left₀ left left' calls₀ calls calls' so_far gains gave passing reads called = grind (arith, stays_more, append_assoc, unanswered_gained, calls_more, one_more_at_most, length-append, stays_more (unanswered old ++ so_far.came) (unanswered mid) gains.gained so_far.answer, append_assoc (unanswered old) so_far.came gains.gained, unanswered_gained mid new gains.gained passing gains.appended, calls_more calls₀ calls calls' old.reads mid.reads new.reads so_far.called called reads, one_more_at_most calls, length-append mid.kept gains.gained, length-append so_far.came gains.gained)

-- one round: nothing was found, room was made, and a read followed
pub reads_round : (idle : ℕ) (old mid made new : BlocksView) (left₀ left left' : Option (List ℕ)) (calls₀ calls calls' : ℕ) → Reads 0 old mid left₀ left calls₀ calls → HasNoFeed mid.kept → MakesRoom (unanswered mid) (unanswered made) → made.reads ≡ mid.reads
    → Gains made.kept new.kept left left' → length made.kept < length new.kept + idle → new.is_passing ≡ made.is_passing → new.reads ≡ made.reads + 1 → calls' ≡ one_more calls → Reads idle old new left₀ left' calls₀ calls'
reads_round idle old mid made new left₀ left left' calls₀ calls calls' so_far none room room_reads gains gave passing reads called = reads_more idle old made new left₀ left left' calls₀ calls calls' (reads_room old mid made left₀ left calls₀ calls so_far none room room_reads) gains gave passing reads called

-- a first line that begins with the placeholder is a long first line of the bytes
long_first : (whole bytes line rest : List ℕ) (ended : Bool) (left : Option (List ℕ)) (r : ReplacesLong whole bytes) → FirstLine bytes line rest ended left → FirstLong whole rest ended left × (longest_line < length line)
long_first whole bytes line rest ended left r f =
    let feed : (ended ≡ false) × (bytes ≡ f.chunk ++ (10 ∷ rest)) → FirstLong whole rest ended left × (longest_line < length line) = λ e.
    let parts = split_past passed r.rest f.chunk rest passed-no_feed (sym r.bytes_are ∙ e.1) in
    let none : HasNoFeed (passed ++ parts.0) = subst HasNoFeed parts.1 f.no_feed in
    let more : HasNoFeed parts.0 = subst HasNoFeed (drop_at passed parts.0 (longest_line + 1) length-passed) (All-drop is_plain (longest_line + 1) (passed ++ parts.0) none) in
    let chunk : List ℕ = r.prefix ++ parts.0 in
    let whole_is : whole ≡ chunk ++ (10 ∷ rest) = r.whole_is ∙ ap (λ x. r.prefix ++ x) parts.2 ∙ sym (append_assoc r.prefix parts.0 (10 ∷ rest)) in
    let long : longest_line < length (without_return chunk) = long_chunk chunk (omega (arith, length-append r.prefix parts.0, r.long)) in
    let over : longest_line < length line = subst (λ p. longest_line < length p) (sym (f.line_is ∙ ap without_return parts.1)) (long_after parts.0) in
    ((without_return chunk, record { chunk = chunk; line_is = refl; no_feed = All-append is_plain r.prefix parts.0 r.no_feed more; ends = inl (e.0, whole_is) }, long), over) in
    let end : IsAtEnd left × (ended ≡ true) × (bytes ≡ f.chunk) × (0 < length f.chunk) × (rest ≡ []) → FirstLong whole rest ended left × (longest_line < length line) = λ e.
    let parts : f.chunk ≡ passed ++ r.rest = sym e.2 ∙ r.bytes_are in
    let none : HasNoFeed whole = no_feed_whole whole bytes (inr r) (subst HasNoFeed (sym e.2) f.no_feed) in
    let size : longest_line + 1 < length whole = omega (arith, ap length r.whole_is, length-append r.prefix r.rest, r.long) in
    let over : longest_line < length line = subst (λ p. longest_line < length p) (sym (f.line_is ∙ ap without_return parts)) (long_after r.rest) in
    ((without_return whole, record { chunk = whole; line_is = refl; no_feed = none; ends = inr (e.0, e.1, refl, omega (arith, size), e.4) }, long_chunk whole size), over) in
    elim f.ends [ inl e ↦ feed e | inr e ↦ end e ]

gives_replaced : (whole bytes rest : List ℕ) (ended : Bool) (left : Option (List ℕ)) (next : Next) → ReplacesLong whole bytes → GivesNext bytes rest ended left (Ok next) → GivesNext whole rest ended left (Ok next)
gives_replaced whole bytes rest ended left (Line line) r f = absurd (omega (arith, f.1, (long_first whole bytes line.now rest ended left r f.0).1))
gives_replaced whole bytes rest ended left Long r f = (long_first whole bytes f.0 rest ended left r f.1).0
gives_replaced whole bytes rest ended left End r f = absurd (omega (arith, ap length f.2, ap length r.bytes_are, length-append passed r.rest, length-passed))

gives_whole : (whole bytes rest : List ℕ) (ended : Bool) (left : Option (List ℕ)) (next : Next) → Stays whole bytes → GivesNext bytes rest ended left (Ok next) → GivesNext whole rest ended left (Ok next)
gives_whole whole bytes rest ended left next (inl same) f = subst (λ b. GivesNext b rest ended left (Ok next)) same f
gives_whole whole bytes rest ended left next (inr r) f = gives_replaced whole bytes rest ended left next r f

-- only the fields that say what came count
pub reads_same : (idle idle' : ℕ) (old mid new : BlocksView) (left₀ left : Option (List ℕ)) (calls₀ calls : ℕ) → Reads idle old mid left₀ left calls₀ calls → unanswered new ≡ unanswered mid → new.reads ≡ mid.reads → idle ≤ idle' → Reads idle' old new left₀ left calls₀ calls
reads_same idle idle' old mid new left₀ left calls₀ calls so_far same reads more = record {
  came = so_far.came;
  given = so_far.given;
  answer = rw same so_far.answer;
  called = rw reads so_far.called;
  few = omega (arith, so_far.few, more);
}

-- the line is there
pub answers_next : (old mid new : BlocksView) (left₀ left : Option (List ℕ)) (calls₀ calls : ℕ) (next : Next) → Reads (if mid.has_ended then 1 else 0) old mid left₀ left calls₀ calls → new.reads ≡ mid.reads → new.has_ended ≡ mid.has_ended → GivesNext (unanswered mid) (unanswered new) new.has_ended left (Ok next)
    → Answers old new left₀ left calls₀ calls (Ok next)
answers_next old mid new left₀ left calls₀ calls next so_far reads ended gives = record {
  came = so_far.came;
  given = so_far.given;
  answer = gives_whole _ _ _ new.has_ended left next so_far.answer gives;
  called = rw reads so_far.called;
  few = rw ended so_far.few;
}

-- the source failed, or no more is read of it
pub answers_none : (old new : BlocksView) (left₀ left : Option (List ℕ)) (calls₀ calls : ℕ) (failed : Failed) → Reads 1 old new left₀ left calls₀ calls → HasNoFeed new.kept → Answers old new left₀ left calls₀ calls (Err failed)
answers_none old new left₀ left calls₀ calls failed so_far none = record {
  came = so_far.came;
  given = so_far.given;
  answer = (no_feed_whole _ _ so_far.answer (unanswered-no_feed new none), so_far.answer);
  called = so_far.called;
  few = so_far.few;
}
