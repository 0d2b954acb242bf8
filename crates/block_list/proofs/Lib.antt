mod RestPush
