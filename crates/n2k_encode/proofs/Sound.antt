-- Data that the definition gives read back.
use Rattle.std.proofs.Common.{if◌then◌else◌, codes, length, nat_le, ◌≡◌, ℕ, zero, suc, ◌+◌, Bool, true, false, not, ◌&&◌, List, [], ◌∷◌, map, take, Option, Some, None, ◌⊎◌, Result, Ok, Err, is_some, is_none, refl, ap, sym, ◌∙◌, subst, arith, inl, inr}
use Rattle.std.specs.Prelude.{IfOk}
use Rattle.std.specs.List.{filter, find, list_all, slice_get, enumerate_from}
use Rattle.std.proofs.lemmas.Bool.{cases_Bool}
use Rattle.std.specs.Option.{option_and_then}
use Rattle.json.specs.Find.{as_str}
use Rattle.json.specs.Json.{Json}
use Rattle.n2k_wire.specs.declared.identifier.Id.{Id}
use Rattle.n2k_wire.specs.Identifier.{join}
use Rattle.n2k_wire.specs.Packet.{PacketParts}
use Rattle.n2k_wire.specs.Steps.{◌>>=◌, or_cause, holds_or, some_if}
use Rattle.n2k_table.specs.declared.definition.Kind.{Kind}
use Rattle.n2k_table.specs.Definition.{DefinitionParts}
use Rattle.n2k_table.specs.Table.{TableParts, choice, is_of, kind, matches}
use Rattle.n2k_encode.specs.declared.draft.Draft.{Draft}
use Rattle.n2k_encode.specs.declared.refusal.EncodeError.{EncodeError}
use Rattle.n2k_encode.specs.declared.reading.Reading.{Reading}
use Rattle.n2k_encode.specs.Encoded.{IsEncoded, IsEncodedLine, IsObjectOf, reads_as, shows_either}
use Rattle.n2k_encode.specs.Draft.{draft_for, most_data}
use Rattle.n2k_encode.specs.Given.{first_unknown, given, wrong_names}
use Rattle.n2k_encode.specs.Payload.{culprit, cut, cut_draft, data_by, data_in, encoded, first_data, given_data, is_chosen, is_data, is_meant, is_unmatched, matched, means_bytes, bytes_first, or_else, payload_for, sized, unless, unmatched}
use Rattle.n2k_encode.specs.Reading.{shows_all}
use Rattle.n2k_encode.specs.Refusal.{CauseParts, address, none_shows, size, unknown}
use Rattle.n2k_encode.specs.Request.{RequestParts, request, no_request}
use Rattle.n2k_encode.specs.Says.{has_pairs}
use Rattle.n2k_encode.specs.Steps.{first_of, is_some_with, Gives}
use Rattle.n2k_encode.specs.Texts.{hex_bytes}
use Rattle.n2k_encode.proofs.Numbers.{both}
use Rattle.n2k_encode.proofs.Pairs.{pairs_back}

found : {A : Type 0} → (c : CauseParts) (o : Option A) (x : A) → or_cause c o ≡ Ok x → o ≡ Some x
found c None x e = absurd cc
found c (Some y) x e = grind (arith, e)

if_held : {A : Type 0} → (b : Bool) (x y : A) → some_if b x ≡ Some y → (b ≡ true) × (x ≡ y)
if_held true x y e = (refl, grind (arith, e))
if_held false x y e = absurd cc

is_not : (b : Bool) → not b ≡ true → b ≡ false
is_not true e = absurd cc
is_not false e = refl

-- the definition that is chosen at a place is the first that the data match
chosen_at : (payload : List ℕ) (ds : List DefinitionParts) (k : ℕ) (d : DefinitionParts) → slice_get ds k ≡ Some d → list_all (λ x. not (matches payload x)) (take k ds) ≡ true → matches payload d ≡ true → find (matches payload) ds ≡ Some d
chosen_at payload [] zero d at none is = absurd cc
chosen_at payload [] (suc k) d at none is = absurd cc
chosen_at payload (x ∷ ds) zero d at none is = grind (arith, at, is)
chosen_at payload (x ∷ ds) (suc k) d at none is =
    let tests = both _ _ none in
    rw (is_not (matches payload x) tests.0) (chosen_at payload ds k d at tests.1 is)

first_of_both : {A : Type 0} → (a b : Bool) (x : A) (more more' : Option A) → more ≡ more' → (if a then (if b then Some x else more) else more) ≡ (if a && b then Some x else more')
first_of_both true true x more more' e = refl
first_of_both true false x more more' e = e
first_of_both false b x more more' e = e

find_kept : {A : Type 0} → (a : Bool) (q : A → Bool) (x : A) (xs : List A) → find q (if a then x ∷ xs else xs) ≡ (if a then (if q x then Some x else find q xs) else find q xs)
find_kept true q x xs = refl
find_kept false q x xs = refl

find_filter : {A : Type 0} → (p q : A → Bool) (xs : List A) → find q (filter p xs) ≡ find (λ x. p x && q x) xs
find_filter p q [] = refl
find_filter p q (x ∷ xs) = find_kept (p x) q x (filter p xs) ∙ first_of_both (p x) (q x) x (find q (filter p xs)) (find (λ y. p y && q y) xs) (find_filter p q xs)

-- a place among these with its definition gave the data
pub record Gave {D : Type 0} (p : ℕ × D → Bool) (h : ℕ × D → Result (List ℕ) CauseParts) (xs : List D) (k : ℕ) (payload : List ℕ) : Type 0 where
  pub place : ℕ
  pub definition : D
  pub at : slice_get xs place ≡ Some definition
  pub meant : p (k + place, definition) ≡ true
  pub data_is : h (k + place, definition) ≡ Ok payload

later : {D : Type 0} → (p : ℕ × D → Bool) (h : ℕ × D → Result (List ℕ) CauseParts) (x : D) (xs : List D) (k : ℕ) (payload : List ℕ) → Gave p h xs (k + 1) payload → Gave p h (x ∷ xs) k payload
later p h x xs k payload g =
    let next : k + 1 + g.place ≡ k + suc g.place = omega arith in
    record {
      place = suc g.place;
      definition = g.definition;
      at = g.at;
      meant = subst (λ n. p (n, g.definition) ≡ true) next g.meant;
      data_is = subst (λ n. h (n, g.definition) ≡ Ok payload) next g.data_is;
    }

here : {D : Type 0} → (p : ℕ × D → Bool) (h : ℕ × D → Result (List ℕ) CauseParts) (x : D) (xs : List D) (k : ℕ) (payload : List ℕ) → p (k, x) ≡ true → h (k, x) ≡ Ok payload → Gave p h (x ∷ xs) k payload
here p h x xs k payload meant is =
    let first : k ≡ k + 0 = omega arith in
    record {
      place = zero;
      definition = x;
      at = refl;
      meant = subst (λ n. p (n, x) ≡ true) first meant;
      data_is = subst (λ n. h (n, x) ≡ Ok payload) first is;
    }

module _ {D : Type 0} (p : ℕ × D → Bool) (h : ℕ × D → Result (List ℕ) CauseParts) where
  tried : (x : D) (xs : List D) (k : ℕ) (payload : List ℕ) (earlier : Option CauseParts) (others : List (ℕ × D)) (r : Result (List ℕ) CauseParts)
      → ((e : Option CauseParts) → first_data e (map h others) ≡ Ok payload → Gave p h xs (k + 1) payload)
      → p (k, x) ≡ true → h (k, x) ≡ r → first_data earlier (r ∷ map h others) ≡ Ok payload → Gave p h (x ∷ xs) k payload
  tried x xs k payload earlier others (Ok y) more meant is f = here p h x xs k payload meant (is ∙ f)
  tried x xs k payload earlier others (Err c) more meant is f = later p h x xs k payload (more (first_of earlier (Some c)) f)

  met : (x : D) (xs : List D) (k : ℕ) (payload : List ℕ) (earlier : Option CauseParts) (others : List (ℕ × D)) (a : Bool)
      → ((e : Option CauseParts) → first_data e (map h others) ≡ Ok payload → Gave p h xs (k + 1) payload)
      → p (k, x) ≡ a → first_data earlier (map h (if a then (k, x) ∷ others else others)) ≡ Ok payload → Gave p h (x ∷ xs) k payload
  met x xs k payload earlier others true more meant f = tried x xs k payload earlier others (h (k, x)) more meant refl f
  met x xs k payload earlier others false more meant f = later p h x xs k payload (more earlier f)

  pub gave : (xs : List D) (k : ℕ) (payload : List ℕ) (earlier : Option CauseParts) → first_data earlier (map h (filter p (enumerate_from k xs))) ≡ Ok payload → Gave p h xs k payload
  gave [] k payload earlier e = absurd cc
  gave (x ∷ xs) k payload earlier e = met x xs k payload earlier (filter p (enumerate_from (k + 1) xs)) (p (k, x)) (gave xs (k + 1) payload) refl e

-- the data were cut from a draft
pub record IsCut (ds : List DefinitionParts) (k : ℕ) (d : DefinitionParts) (reading : Reading) (fields : Json) (payload : List ℕ) : Type 0 where
  pub chosen : is_chosen payload ds k ≡ true
  pub shows : shows_all reading d fields payload ≡ true

cut_is : (ds : List DefinitionParts) (kind : Kind) (k : ℕ) (d : DefinitionParts) (reading : Reading) (fields : Json) (bytes : List ℕ) (n : ℕ) (payload : List ℕ)
    → cut ds kind k d reading fields bytes n ≡ Some payload → IsCut ds k d reading fields payload
cut_is ds kind k d reading fields bytes n payload e =
    let parts = if_held _ (take n bytes) payload e in
    let tests = both _ _ parts.0 in
    let more = both _ _ tests.0 in
    record {
      chosen = subst (λ (bs : List ℕ). is_chosen bs ds k ≡ true) parts.1 more.1;
      shows = subst (λ (bs : List ℕ). shows_all reading d fields bs ≡ true) parts.1 tests.1;
    }

first_of_is : {A : Type 0} → (a b : Option A) (x : A) → first_of a b ≡ Some x → (a ≡ Some x) ⊎ (b ≡ Some x)
first_of_is None b x e = inr e
first_of_is (Some y) b x e = inl e

cut_draft_is : (ds : List DefinitionParts) (kind : Kind) (k : ℕ) (d : DefinitionParts) (reading : Reading) (fields : Json) (draft : Draft) (payload : List ℕ)
    → cut_draft ds kind k d reading fields draft ≡ Some payload → IsCut ds k d reading fields payload
cut_draft_is ds kind k d reading fields draft payload e = elim (cases_Bool draft.agree) [
  | inl same ↦ elim (first_of_is _ _ payload (rw same at e)) [
    | inl whole ↦ cut_is ds kind k d reading fields draft.bytes draft.whole payload whole
    | inr needed ↦ cut_is ds kind k d reading fields draft.bytes draft.needed payload needed
  ]
  | inr other ↦
      let none : None ≡ Some payload = rw other at e in
      absurd cc
]

through : (o : Option CauseParts) (m : Result Draft CauseParts) (cuts : Draft → Option (List ℕ)) (blame : Draft → CauseParts) (payload : List ℕ)
    → (do
      known ← unless o
      draft ← m
      or_cause (blame draft) (cuts draft)) ≡ Ok payload
    → (o ≡ None) × ((draft : Draft) × (cuts draft ≡ Some payload))
through None (Ok draft) cuts blame payload e = (refl, (draft, found (blame draft) (cuts draft) payload e))
through None (Err c) cuts blame payload e = absurd cc
through (Some c) m cuts blame payload e = absurd cc

data_by_is : (ds : List DefinitionParts) (kind : Kind) (k : ℕ) (d : DefinitionParts) (reading : Reading) (r : RequestParts) (payload : List ℕ)
    → data_by ds kind reading r k d ≡ Ok payload → (wrong_names d r.fields ≡ None) × IsCut ds k d reading r.fields payload
unfolding data_by
data_by_is ds kind k d reading r payload e =
    let is = through (wrong_names d r.fields) (draft_for reading.nearest d kind r.fields) (cut_draft ds kind k d reading r.fields) (λ draft. none_shows (culprit d reading r.fields draft)) payload e in
    (is.0, cut_draft_is ds kind k d reading r.fields is.1.0 payload is.1.1)

either : (adding nearest : Bool) (d : DefinitionParts) (fields : Json) (payload : List ℕ) → shows_all (record { nearest = nearest; adding = adding }) d fields payload ≡ true → shows_either nearest d fields payload ≡ true
either false nearest d fields payload e = grind (arith, e)
either true nearest d fields payload e = grind (arith, e)

data_in_reads : (t : TableParts) (pgn : ℕ) (kind : Kind) (adding nearest : Bool) (r : RequestParts) (payload : List ℕ)
    → data_in (filter (is_of pgn) t.definitions) kind (record { nearest = nearest; adding = adding }) r ≡ Ok payload → reads_as nearest (choice t pgn payload) r payload ≡ true
data_in_reads t pgn kind adding nearest r payload e =
    let ds = filter (is_of pgn) t.definitions in
    let reading : Reading = record { nearest = nearest; adding = adding } in
    let g = gave (λ (x : ℕ × DefinitionParts). is_meant r.description x.1) (λ (x : ℕ × DefinitionParts). data_by ds kind reading r x.0 x.1) ds 0 payload None e in
    let zero_first : 0 + g.place ≡ g.place = omega arith in
    let by : data_by ds kind reading r g.place g.definition ≡ Ok payload = subst (λ n. data_by ds kind reading r n g.definition ≡ Ok payload) zero_first g.data_is in
    let is = data_by_is ds kind g.place g.definition reading r payload by in
    let chosen = both _ _ is.1.chosen in
    let matches_it : matches payload g.definition ≡ true = subst (λ (o : Option DefinitionParts). is_some_with (matches payload) o ≡ true) g.at chosen.1 in
    let choice_is : choice t pgn payload ≡ Some g.definition = sym (find_filter (is_of pgn) (matches payload) t.definitions) ∙ chosen_at payload ds g.place g.definition g.at chosen.0 matches_it in
    let shows = either adding nearest g.definition r.fields payload is.1.shows in
    let meant : is_meant r.description g.definition ≡ true = g.meant in
    let names : is_none (wrong_names g.definition r.fields) ≡ true = rw is.0 refl in
    rw choice_is (rw (meant, names, shows) refl)

or_else_is : (a b : Result (List ℕ) CauseParts) (x : List ℕ) → or_else a b ≡ Ok x → (a ≡ Ok x) ⊎ (b ≡ Ok x)
or_else_is (Ok y) b x e = inl e
or_else_is (Err c) b x e = inr e

matched_reads : (t : TableParts) (pgn : ℕ) (kind : Kind) (nearest : Bool) (r : RequestParts) (payload : List ℕ)
    → matched (filter (is_of pgn) t.definitions) kind nearest r ≡ Ok payload → reads_as nearest (choice t pgn payload) r payload ≡ true
matched_reads t pgn kind nearest r payload e = elim (or_else_is _ _ payload e) [
  | inl exactly ↦ data_in_reads t pgn kind false nearest r payload exactly
  | inr adding ↦ data_in_reads t pgn kind true nearest r payload adding
]

-- two tests of data that passed
tested : (a b : Bool) (c d : CauseParts) (bs payload : List ℕ) → (do
  few ← holds_or c a
  free ← holds_or d b
  Ok bs) ≡ Ok payload → (bs ≡ payload) × (b ≡ true)
tested true true c d bs payload e = (grind (arith, e), refl)
tested true false c d bs payload e = absurd cc
tested false b c d bs payload e = absurd cc

through_data : (m : Result (List ℕ) CauseParts) (few free : List ℕ → Bool) (c d : CauseParts) (payload : List ℕ)
    → (do
      bs ← m
      held ← holds_or c (few bs)
      other ← holds_or d (free bs)
      Ok bs) ≡ Ok payload
    → (m ≡ Ok payload) × (free payload ≡ true)
through_data (Ok bs) few free c d payload e =
    let is = tested (few bs) (free bs) c d bs payload e in
    (ap Ok is.0, subst (λ (x : List ℕ). free x ≡ true) is.0 is.1)
through_data (Err f) few free c d payload e = absurd cc

sized_is : (o : Option (List ℕ)) (payload : List ℕ) → sized o ≡ Ok payload → o ≡ Some payload
sized_is None payload e = absurd cc
sized_is (Some bs) payload e = grind (arith, e)

text_is : (o : Option (List ℕ)) (payload : List ℕ) → option_and_then hex_bytes o ≡ Some payload → is_some_with (has_pairs payload) o ≡ true
text_is None payload e = absurd cc
text_is (Some text) payload e = pairs_back text payload e

data_is : (o : Option Json) (payload : List ℕ) → option_and_then hex_bytes (option_and_then as_str o) ≡ Some payload → is_some_with (λ j. is_some_with (has_pairs payload) (as_str j)) o ≡ true
data_is None payload e = absurd cc
data_is (Some j) payload e = text_is (as_str j) payload e

none_is : {A : Type 0} → (o : Option A) → is_none o ≡ true → o ≡ None
none_is None e = refl
none_is (Some x) e = absurd cc

unmatched_reads : (t : TableParts) (kind : Kind) (nearest : Bool) (r : RequestParts) (payload : List ℕ) → means_bytes r ≡ true
    → unmatched t kind r ≡ Ok payload → reads_as nearest (choice t r.id.pgn payload) r payload ≡ true
unfolding unmatched
unmatched_reads t kind nearest r payload meant e =
    let is = through_data (sized (given_data r.fields)) (λ bs. nat_le (length bs) (most_data kind)) (λ bs. is_none (choice t r.id.pgn bs)) size (none_shows (codes "Data")) payload e in
    let asked = is_unmatched r.description in
    let alone = is_none (first_unknown is_data r.fields) in
    let tests = both asked alone (both (asked && alone) (is_some (given (codes "Data") r.fields)) meant).0 in
    let bytes = data_is (given (codes "Data") r.fields) payload (sized_is (given_data r.fields) payload is.0) in
    let free : choice t r.id.pgn payload ≡ None = none_is (choice t r.id.pgn payload) is.1 in
    rw free (rw (tests.0, tests.1, bytes) refl)

-- bytes, or data that a definition gave
bytes_first_is : (meant : Bool) (a b : Result (List ℕ) CauseParts) (x : List ℕ) → bytes_first meant a b ≡ Ok x → ((meant ≡ true) × (a ≡ Ok x)) ⊎ (b ≡ Ok x)
bytes_first_is false a b x e = inr e
bytes_first_is true (Ok y) b x e = inl (refl, e)
bytes_first_is true (Err c) (Ok y) x e = inr e
bytes_first_is true (Err c) (Err d) x e = absurd cc

payload_reads : (t : TableParts) (kind : Kind) (nearest : Bool) (r : RequestParts) (payload : List ℕ) → payload_for t kind nearest r ≡ Ok payload → reads_as nearest (choice t r.id.pgn payload) r payload ≡ true
payload_reads t kind nearest r payload e = elim (bytes_first_is (means_bytes r) _ _ payload e) [
  | inl bytes ↦ unmatched_reads t kind nearest r payload bytes.0 bytes.1
  | inr by ↦ matched_reads t r.id.pgn kind nearest r payload by
]

-- what an encoded message went through
pub record Passed {K J : Type 0} (asked : Option RequestParts) (kinds : RequestParts → Option K) (joins : RequestParts → Option J) (payloads : K → RequestParts → Result (List ℕ) CauseParts) (p : PacketParts) : Type 0 where
  pub r : RequestParts
  pub k : K
  pub asked_is : asked ≡ Some r
  pub kind_is : kinds r ≡ Some k
  pub joined : is_some (joins r) ≡ true
  pub payload_is : payloads k r ≡ Ok p.payload
  pub stamp_is : p.stamp ≡ r.stamp
  pub id_is : p.id ≡ r.id

message_is : (r : RequestParts) (m : Result (List ℕ) CauseParts) (p : PacketParts) → (do
  payload ← m
  Ok (record { stamp = r.stamp; id = r.id; payload = payload })) ≡ Ok p → (m ≡ Ok p.payload) × (p.stamp ≡ r.stamp) × (p.id ≡ r.id)
message_is r (Ok bs) p e =
    let same : record { stamp = r.stamp; id = r.id; payload = bs } ≡ p = grind (arith, e) in
    (ap (λ (q : PacketParts). Ok q.payload) same, sym (ap (λ (q : PacketParts). q.stamp) same), sym (ap (λ (q : PacketParts). q.id) same))
message_is r (Err c) p e = absurd cc

passed : {K J : Type 0} → (asked : Option RequestParts) (kinds : RequestParts → Option K) (joins : RequestParts → Option J) (payloads : K → RequestParts → Result (List ℕ) CauseParts) (a b c : CauseParts) (p : PacketParts)
    → (do
      r ← or_cause a asked
      k ← or_cause b (kinds r)
      carried ← or_cause c (joins r)
      payload ← payloads k r
      Ok (record { stamp = r.stamp; id = r.id; payload = payload })) ≡ Ok p
    → Passed asked kinds joins payloads p
passed None kinds joins payloads a b c p e = absurd cc
passed (Some r) kinds joins payloads a b c p e = go (kinds r) (joins r) refl refl e
  where
    go : (ks : Option _) (js : Option _) → kinds r ≡ ks → joins r ≡ js → (do
      k ← or_cause b ks
      carried ← or_cause c js
      payload ← payloads k r
      Ok (record { stamp = r.stamp; id = r.id; payload = payload })) ≡ Ok p → Passed (Some r) kinds joins payloads p
    go None js x y f = absurd cc
    go (Some k) None x y f = absurd cc
    go (Some k) (Some i) x y f =
        let is = message_is r (payloads k r) p f in
        record { r = r; k = k; asked_is = refl; kind_is = x; joined = ap is_some y; payload_is = is.0; stamp_is = is.1; id_is = is.2 }

pub encoded_is : (t : TableParts) (nearest : Bool) (j : Json) (p : PacketParts) → encoded t nearest j ≡ Ok p → IsEncoded t nearest j p
unfolding encoded
encoded_is t nearest j p e =
    let is = passed (request j) (λ r. kind t r.id.pgn) (λ r. join r.id) (λ k r. payload_for t k nearest r) (no_request j) unknown address p e in
    let reads = payload_reads t is.k nearest is.r p.payload is.payload_is in
    record {
      asked = is.r;
      request_is = is.asked_is;
      stamp_is = is.stamp_is;
      id_is = is.id_is;
      is_known = rw (is.id_is, is.kind_is) refl;
      joins = rw is.id_is is.joined;
      reads_back = subst (λ (i : Id). reads_as nearest (choice t i.pgn p.payload) is.r p.payload ≡ true) (sym is.id_is) reads;
      determined = e;
    }

pub encoded_line : (t : TableParts) (nearest : Bool) (line : List ℕ) (j : Json) (r : Result PacketParts EncodeError) → IsObjectOf line j → Gives (λ p. p) r (encoded t nearest j) → IfOk r (λ p. IsEncodedLine t nearest line p)
encoded_line t nearest line j (Ok p) is e = record { object = j; is_object = is; encoded = encoded_is t nearest j p e }
encoded_line t nearest line j (Err error) is e = tt
