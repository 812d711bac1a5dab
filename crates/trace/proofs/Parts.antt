-- Part after part of an input: what was written is the answers to what was fed. Assumes nothing.
use Rattle.std.proofs.Common.{◌≡◌, List, [], ◌∷◌, ◌++◌, ℕ, ◌+◌, ◌-◌, Option, Some, None, IfSome, refl, append_assoc, append-nil, length, take, drop, subst, sym, ap, ap₂, ◌∙◌, arith}
use Rattle.std.proofs.Math.Seq.{take-length, take-add, paste}
use Rattle.std.proofs.lemmas.List.{nil_from_length}
use Rattle.std.proofs.lemmas.List.Edits.{take-paste}
use Rattle.std.proofs.KnownBytes.{Appends-nil, Appends-trans, Consumes-nil, Consumes-trans, Consumes-kept, Consumes-all}
use Rattle.std.specs.Io.KnownBytes.{Appends, Consumes, Keeps, IsAtEnd}
use Rattle.base.specs.Code.{Out, out}
use Rattle.lines.specs.declared.Answer.{Answer}
use Rattle.lines.specs.Answer.{text_to}
use Rattle.lines.proofs.Pastes.{text_ends}
use Rattle.dialogue.specs.declared.Served.{Served}
use Rattle.dialogue.specs.Dialogue.{Dialogue, opening, fed, finished, answers, printed}
use Rattle.dialogue.specs.Feeds.{Serves}
use Rattle.dialogue.proofs.Cases.{served_rest, fed_none}
use Rattle.dialogue.proofs.Laws.{fed_parts, printed_parts}
use Rattle.trace.specs.Passes.{Follows, AnswersPart, AnswersAll}

-- a text that was written from the start is what was to be written
pub text_is : (l s : List ℕ) {e : ℕ} {l' : List ℕ} → out e l' ≡ text_to l 0 s → take e l' ≡ s
text_is l s {e} {l'} p =
    let ends : e ≡ 0 + length s = text_ends l s 0 p in
    let text : l' ≡ paste l 0 s (length s) = ap (λ (o : Out ℕ (List ℕ)). o.left) p in
    rw (ends, text) (take-paste l 0 s (length s) (omega arith) (omega arith) ∙ take-length s)

-- none of an input is fed, and nothing is written
pub none_written : (d : Dialogue) (known : Option (List ℕ)) → Appends known known (printed (fed d []).answer)
unfolding fed printed
none_written d known = Appends-nil known

-- what is left to serve of an input: with its answers, behind those that were written, all are given
pub record Goes (d : Dialogue) (input : List ℕ) (old now : Option (List ℕ)) (left : Dialogue) (rest : List ℕ) : Type 0 where
  pub said : List Answer
  pub leaves : (fed left rest).left ≡ (fed d input).left
  pub answers : said ++ (fed left rest).answer ≡ (fed d input).answer
  pub writes : Appends old now (printed said)

pub goes_first : (d : Dialogue) (input : List ℕ) (known : Option (List ℕ)) → Goes d input known known d input
unfolding printed
goes_first d input known = record { said = []; leaves = refl; answers = refl; writes = Appends-nil known }

module _ {d : Dialogue} {input : List ℕ} {old now : Option (List ℕ)} {left : Dialogue} {rest : List ℕ} (g : Goes d input old now left rest) where
  -- one part more is served, and its answers are written
  pub goes_on : (text : List ℕ) (r : Served) (text' : List ℕ) (left' : Dialogue) (now' : Option (List ℕ)) → Serves left rest text r text' left'
      → Appends now now' (take r.end text') → Goes d input old now' left' (drop r.used rest)
  goes_on text r text' left' now' serves w =
      let part = (fed left (take r.used rest)).answer in
      let both = served_rest left rest text r text' left' serves in
      record {
        said = g.said ++ part;
        leaves = sym (ap (λ (o : Out (List Answer) Dialogue). o.left) both) ∙ g.leaves;
        answers = append_assoc g.said part (fed left' (drop r.used rest)).answer
            ∙ ap (λ (o : Out (List Answer) Dialogue). g.said ++ o.answer) (sym both) ∙ g.answers;
        writes = subst (Appends old now') (sym (printed_parts g.said part))
            (Appends-trans old now now' (printed g.said) (printed part) g.writes (subst (Appends now now') (text_is text (printed part) serves.prints) w));
      }

  -- nothing is left
  pub goes_last : length rest ≡ 0 → left ≡ (fed d input).left
  unfolding fed
  goes_last e = ap (λ (l : List ℕ). (fed left l).left) (sym (nil_from_length rest e)) ∙ g.leaves

  pub all_written : length rest ≡ 0 → Appends old now (printed (fed d input).answer)
  unfolding fed
  all_written e =
      subst (λ (x : List Answer). Appends old now (printed x))
      (sym (append-nil g.said) ∙ ap (λ (l : List ℕ). g.said ++ (fed left l).answer) (sym (nil_from_length rest e)) ∙ g.answers)
      g.writes

-- ---- parts that were read, one after the other

-- none yet
pub follows_first : (unread said : Option (List ℕ)) → Follows opening unread unread said said
follows_first unread said = record { reached = ([], fed_none opening []); reads = Consumes-nil unread; writes = none_written opening said }

-- what holds of all that was read holds of what there was to read
of_whole : (a : Option (List ℕ)) (input : List ℕ) (P : List ℕ → Type 0) → IfSome a (λ (i : List ℕ). input ++ [] ≡ i) → P input → IfSome a P
of_whole None input P e h = tt
of_whole (Some i) input P e h = subst P (sym (append-nil input) ∙ e) h

module _ (d : Dialogue) (a b x y : Option (List ℕ)) (was : Follows d a b x y) where
  was_fed : (part : List ℕ) → (fed opening was.reached.0).answer ++ (fed d part).answer ≡ (fed opening (was.reached.0 ++ part)).answer
  was_fed part =
      ap (λ (l : Dialogue). (fed opening was.reached.0).answer ++ (fed l part).answer) was.reached.1
      ∙ sym (ap (λ (o : Out (List Answer) Dialogue). o.answer) (fed_parts opening was.reached.0 part))

  -- one more
  pub follows_on : (c z : Option (List ℕ)) (part : List ℕ) (left : Dialogue) → Consumes b c part → left ≡ (fed d part).left → Appends y z (printed (fed d part).answer)
      → Follows left a c x z
  follows_on c z part left p e w =
      let input = was.reached.0 in
      record {
        reached = (
          input ++ part,
          e ∙ ap (λ (l : Dialogue). (fed l part).left) was.reached.1 ∙ sym (ap (λ (o : Out (List Answer) Dialogue). o.left) (fed_parts opening input part)),
        );
        reads = Consumes-trans a b c input part was.reads p;
        writes = subst (Appends x z) (sym (printed_parts (fed opening input).answer (fed d part).answer) ∙ ap printed (was_fed part))
            (Appends-trans x y z (printed (fed opening input).answer) (printed (fed d part).answer) was.writes w);
      }

  -- a read that failed
  pub follows_kept : (c : Option (List ℕ)) → Keeps b c → AnswersPart a c x y
  follows_kept c k = (d, record { reached = was.reached; reads = Consumes-kept a b c was.reached.0 was.reads k; writes = was.writes })

  -- the answer to a last line that has no end
  follows_last : (z : Option (List ℕ)) → Appends y z (printed (finished d).answer) → Appends x z (printed (answers opening was.reached.0))
  unfolding answers
  follows_last z w =
      let before = (fed opening was.reached.0).answer in
      subst (Appends x z)
      (sym (printed_parts before (finished d).answer) ∙ ap (λ (l : Dialogue). printed (before ++ (finished l).answer)) was.reached.1)
      (Appends-trans x y z (printed before) (printed (finished d).answer) was.writes w)

  -- the end of the input: what was read is the whole of it
  pub follows_end : (c z : Option (List ℕ)) → Consumes b c [] → IsAtEnd c → Appends y z (printed (finished d).answer) → AnswersAll a x z
  follows_end c z p q w =
      let input = was.reached.0 in
      of_whole a input (λ (i : List ℕ). Appends x z (printed (answers opening i)))
      (Consumes-all a c (input ++ []) [] (input ++ []) (Consumes-trans a b c input [] was.reads p) q refl)
      (follows_last z w)
