-- What is in the grammar is read.
use Rattle.std.proofs.Common.{◌≡◌, ℕ, Bool, true, List, [], ◌∷◌, ◌++◌, Option, None, Some, is_some, option_map, refl, sym, ap, ◌∙◌, append_assoc, append-nil}
use Rattle.ws_linkhdr.specs.declared.item.LinkItem.{LinkItem}
use Rattle.ws_linkhdr.specs.declared.state.Draft.{Draft}
use Rattle.ws_linkhdr.specs.declared.state.State.{State}
use Rattle.ws_linkhdr.specs.declared.state.State.TheVariants.{Between, Ended, BeforeName}
use Rattle.ws_linkhdr.specs.Grammar.{Optional, AreMarked, present, Param, IsParam, IsLink, LinkField, rel_of, is_anchored}
use Rattle.ws_linkhdr.specs.Machine.{fresh, last, run}
use Rattle.ws_linkhdr.proofs.Rests.{with_optional, with_params}
use Rattle.ws_linkhdr.proofs.Params.{item_is}
use Rattle.ws_linkhdr.proofs.Steps.{open_link, last_open, one, Leads, Leads-nil, Leads-then, Leads-byte, Leads-as, Rests, blanks_rest, at_comma, at_semicolon, blanks_between, blanks_before_name, Opens, Opens-then, Opens-as, param_opens, target_opens}

-- the mark and what is behind it
regrouped : (mark : ℕ) (before after element rest : List ℕ) → before ++ mark ∷ after ++ element ++ rest ≡ before ++ (mark ∷ (after ++ (element ++ rest)))
regrouped mark before after element rest =
    append_assoc (before ++ mark ∷ after) element rest ∙ append_assoc before (mark ∷ after) (element ++ rest)

optional_opens : (param : Option Param) (text : List ℕ) (link : Draft) → Optional IsParam param text → Opens (BeforeName link) text (with_optional link param)
optional_opens None text link e = record { after = BeforeName link; leads = Leads-nil (BeforeName link) text e; opened = refl }
optional_opens (Some p) text link h = param_opens p text link h

has_last : (state : State) (link : Draft) → open_link state ≡ Some link → is_some (last state) ≡ true
has_last state link e = ap is_some (last_open state link e)

-- parameters, from a state with an open link
params_open : (params : List (Option Param)) (text : List ℕ) (state : State) (link : Draft) → open_link state ≡ Some link → AreMarked 59 IsParam params text → Opens state text (with_params link params)
params_open [] text state link e h = record { after = state; leads = Leads-nil state text h; opened = e }
params_open (p ∷ params) text state link e m =
    let r : Rests state m.before = blanks_rest m.before state (has_last state link e) m.before_blank in
    let o : Opens (BeforeName link) m.element (with_optional link p) = optional_opens p m.element link m.is_element in
    let t : Opens o.after m.rest (with_params (with_optional link p) params) = params_open params m.rest o.after (with_optional link p) o.opened m.is_rest in
    Opens-as text _ (with_params link (p ∷ params)) (m.whole ∙ regrouped 59 m.before m.after m.element m.rest)
    (Opens-then m.before (59 ∷ (m.after ++ (m.element ++ m.rest))) (with_params link (p ∷ params)) r.leads (record {
      after = t.after;
      leads = Leads-byte 59 (m.after ++ (m.element ++ m.rest)) (λ items. at_semicolon r.after link items (r.same_link ∙ e))
          (Leads-then m.after (m.element ++ m.rest) (blanks_before_name m.after link m.after_blank) (Leads-then m.element m.rest o.leads t.leads));
      opened = t.opened;
    }))

-- where a text leads to a state with these items at its end
record Says (state : State) (text : List ℕ) (items : List LinkItem) : Type 0 where
  pub after : State
  pub leads : Leads state text after
  pub said : last after ≡ Some items

same_said : (item : LinkItem) (r : List ℕ) (a : Bool) → item.rel ≡ r → item.anchored ≡ a → ◌≡◌ {A = LinkItem} (record { target = item.target; rel = r; anchored = a }) item
same_said item r a e f =
    ap (λ (s : List ℕ). let i : LinkItem = record { target = item.target; rel = s; anchored = a } in i) (sym e)
    ∙ ap (λ (c : Bool). let i : LinkItem = record { target = item.target; rel = item.rel; anchored = c } in i) (sym f)

link_says : (item : LinkItem) (text : List ℕ) → IsLink item text → Says Between text (item ∷ [])
link_says item text l =
    let o : Opens (Ended (fresh item.target)) l.text (with_params (fresh item.target) l.params) = params_open l.params l.text (Ended (fresh item.target)) (fresh item.target) refl l.are_params in
    record {
      after = o.after;
      leads = Leads-as text _ (l.whole ∙ sym (append_assoc (60 ∷ item.target) (62 ∷ []) l.text)) (Leads-then (60 ∷ item.target ++ 62 ∷ []) l.text (target_opens item.target l.in_target) o.leads);
      said = last_open o.after _ o.opened
          ∙ ap (λ (i : LinkItem). let s : Option (List LinkItem) = Some (i ∷ []) in s) (item_is item.target l.params ∙ same_said item (rel_of (present l.params)) (is_anchored (present l.params)) l.rel l.anchored);
    }

-- the items of an element, which may be empty
abbrev element_of : Option LinkItem → List LinkItem
element_of None = []
element_of (Some x) = x ∷ []

optional_says : (item : Option LinkItem) (text : List ℕ) → Optional IsLink item text → Says Between text (element_of item)
optional_says None text e = record { after = Between; leads = Leads-nil Between text e; said = refl }
optional_says (Some item) text l = link_says item text l

blanks_end : (bs : List ℕ) (state : State) (items more : List LinkItem) → last state ≡ Some more → Rests state bs → run state items bs ≡ Some (items ++ more)
blanks_end bs state items more e r =
    ap (run state items) (sym (append-nil bs)) ∙ r.leads.runs items []
    ∙ ap (option_map (λ (m : List LinkItem). items ++ m)) (r.same_last ∙ e)

abbrev IsBlankText : List ℕ → Type 0
IsBlankText bs = (state : State) → is_some (last state) ≡ true → Rests state bs

-- more links, and blanks
links_read : (links : List (Option LinkItem)) (text blanks : List ℕ) (state : State) (items more : List LinkItem) → last state ≡ Some more → AreMarked 44 IsLink links text → IsBlankText blanks → run state items (text ++ blanks) ≡ Some ((items ++ more) ++ present links)
links_read [] text blanks state items more e h rests =
    ap (λ (t : List ℕ). run state items (t ++ blanks)) h ∙ blanks_end blanks state items more e (rests state (ap is_some e))
    ∙ ap Some (sym (append-nil (items ++ more)))
links_read (x ∷ links) text blanks state items more e m rests =
    let r : Rests state m.before = blanks_rest m.before state (ap is_some e) m.before_blank in
    let s : Says Between m.element (element_of x) = optional_says x m.element m.is_element in
    ap (λ (t : List ℕ). run state items (t ++ blanks)) (m.whole ∙ regrouped 44 m.before m.after m.element m.rest)
    ∙ ap (run state items) (append_assoc m.before (44 ∷ (m.after ++ (m.element ++ m.rest))) blanks)
    ∙ r.leads.runs items ((44 ∷ (m.after ++ (m.element ++ m.rest))) ++ blanks)
    ∙ one r.after Between items (items ++ more) 44 ((m.after ++ (m.element ++ m.rest)) ++ blanks) (at_comma r.after items more (r.same_last ∙ e))
    ∙ ap (run Between (items ++ more)) (append_assoc m.after (m.element ++ m.rest) blanks)
    ∙ (blanks_between m.after m.after_blank).runs (items ++ more) ((m.element ++ m.rest) ++ blanks)
    ∙ ap (run Between (items ++ more)) (append_assoc m.element m.rest blanks)
    ∙ s.leads.runs (items ++ more) (m.rest ++ blanks)
    ∙ links_read links m.rest blanks s.after (items ++ more) (element_of x) s.said m.is_rest rests
    ∙ ap Some (one_more x)
  where
    one_more : (y : Option LinkItem) → ((items ++ more) ++ element_of y) ++ present links ≡ (items ++ more) ++ present (y ∷ links)
    one_more None = ap (λ (l : List LinkItem). l ++ present links) (append-nil (items ++ more))
    one_more (Some i) = append_assoc (items ++ more) (i ∷ []) (present links)

-- what is in the grammar is read, with its items
pub field_is_read : (field : List ℕ) (items : List LinkItem) → LinkField field items → run Between [] field ≡ Some items
field_is_read field items f =
    let s : Says Between f.element (element_of f.first) = optional_says f.first f.element f.is_first in
    ap (run Between []) (f.whole ∙ append_assoc (f.before ++ f.element) f.rest f.after ∙ append_assoc f.before f.element (f.rest ++ f.after))
    ∙ (blanks_between f.before f.before_blank).runs [] (f.element ++ (f.rest ++ f.after))
    ∙ s.leads.runs [] (f.rest ++ f.after)
    ∙ links_read f.others f.rest f.after s.after [] (element_of f.first) s.said f.are_others (λ state e. blanks_rest f.after state e f.after_blank)
    ∙ ap Some (first_one f.first ∙ sym f.said)
  where
    first_one : (y : Option LinkItem) → element_of y ++ present f.others ≡ present (y ∷ f.others)
    first_one None = refl
    first_one (Some i) = refl
